use Rattle.acpi_body.specs.Bodies.{body_view}
use Rattle.acpi_machine.specs.MachineView.{bodies_of}
use Rattle.acpi_singles.proofs.JoinedValues.{Joining, InList, mapped}
use Rattle.acpi_singles.proofs.joining.add_bodies.Given as goal

abbrev pub invariant-loop-path : goal.invariant-loop-path
invariant-loop-path l = Joining (bodies_of l.initial.bodies) (bodies_of l.bodies) (InList (mapped body_view l.initial.path-iterator)) (InList (mapped body_view l.path-iterator))
