use Rattle.std.proofs.Common.{drop, map}
use Rattle.acpi_machine.specs.MachineView.{machine_of}
use Rattle.acpi_singles.specs.SingleView.{machine_in}
use Rattle.acpi_singles.proofs.JoinedMachines.{JoiningMachines}
use Rattle.acpi_singles.proofs.joining.join.Given as goal

abbrev pub invariant-loop-single : goal.invariant-loop-single
invariant-loop-single g l =
    JoiningMachines (map (λ s. machine_of g.S.Space.contents (machine_in s)) l.singles)
    (map (λ s. machine_of g.S.Space.contents (machine_in s)) (drop l.single-index l.singles)) (machine_of g.S.Space.contents l.joined)
