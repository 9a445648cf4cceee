use Rattle.acpi_machine.specs.MachineView.{machine_of}
use Rattle.acpi_machine.proofs.Orders.{tells_join}
use Rattle.acpi_machine.proofs.machine.load_shared.Goals as goal

pub returns-clause-any_order : goal.returns-clause-any_order
returns-clause-any_order g c =
    tells_join c.args.depth c.args.dsdt.now c.args.ssdts.now c.load_in_order.result c.load_in_order.ensures.none (λ m. machine_of g.S.Space.contents m)
    c.load_in_order.ensures.ok
