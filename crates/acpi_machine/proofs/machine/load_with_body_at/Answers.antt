use Rattle.std.proofs.Common.{◌∷◌, refl}
use Rattle.std.proofs.lemmas.Result.{IfOk-weaker}
use Rattle.acpi_machine.specs.MachineView.{machine_of}
use Rattle.acpi_machine.proofs.OneBody.{has_machine_at}
use Rattle.acpi_machine.proofs.Orders.{tells_join_at}
use Rattle.acpi_machine.proofs.machine.load_with_body_at.Goals as goal

pub returns-clause-ok : goal.returns-clause-ok
returns-clause-ok g c =
    IfOk-weaker c.load_keeping.result _ _
    (λ m h. has_machine_at _ c.args.depth (c.args.dsdt.now ∷ c.args.ssdts.now) c.args.path.now h.notes (machine_of g.S.Space.contents m) (λ n. refl) h.loads h.kept h.bodies)
    c.load_keeping.ensures.ok

pub returns-clause-any_order : goal.returns-clause-any_order
returns-clause-any_order g c =
    tells_join_at c.args.depth c.args.dsdt.now c.args.ssdts.now c.load_keeping.result c.load_keeping.ensures.none c.args.path.now (λ m. machine_of g.S.Space.contents m)
    (IfOk-weaker c.load_keeping.result _ _
    (λ m h. has_machine_at _ c.args.depth (c.args.dsdt.now ∷ c.args.ssdts.now) c.args.path.now h.notes (machine_of g.S.Space.contents m) (λ n. refl) h.loads h.kept h.bodies)
    c.load_keeping.ensures.ok)
