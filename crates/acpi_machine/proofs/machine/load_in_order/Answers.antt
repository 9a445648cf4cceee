use Rattle.std.proofs.Common.{◌∷◌}
use Rattle.std.proofs.lemmas.Result.{IfOk-weaker}
use Rattle.acpi_machine.specs.MachineView.{machine_of}
use Rattle.acpi_machine.proofs.Machines.{kept_has_machine}
use Rattle.acpi_machine.proofs.machine.load_in_order.Goals as goal

pub returns-clause-ok : goal.returns-clause-ok
returns-clause-ok g c =
    IfOk-weaker c.load_keeping.result _ _
    (λ m h. kept_has_machine c.args.depth (c.args.dsdt.now ∷ c.args.ssdts.now) (machine_of g.S.Space.contents m) h) c.load_keeping.ensures.ok
