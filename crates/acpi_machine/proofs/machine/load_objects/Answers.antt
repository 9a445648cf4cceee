use Rattle.std.proofs.Common.{◌∷◌}
use Rattle.std.proofs.lemmas.Result.{IfOk-weaker}
use Rattle.acpi_declare.specs.DeclaredView as declared
use Rattle.acpi_declare.specs.Links.{links_at}
use Rattle.acpi_declare.specs.Namespace.{namespace_of}
use Rattle.acpi_machine.proofs.Orders.{declared_have_machine, tells_joined}
use Rattle.acpi_machine.proofs.machine.load_objects.Goals as goal

pub returns-clause-machine : goal.returns-clause-machine
returns-clause-machine g c =
    IfOk-weaker c.declare_keeping.result _ _
    (λ d h. declared_have_machine c.args.depth (c.args.dsdt.now ∷ c.args.ssdts.now) (namespace_of (g.S.Space.contents (declared.objects_in d))) (links_at (declared.links_in d)) h)
    c.declare_keeping.ensures.ok

pub returns-clause-any_order : goal.returns-clause-any_order
returns-clause-any_order g c =
    tells_joined c.args.depth c.args.dsdt.now c.args.ssdts.now c.declare_keeping.result c.declare_keeping.ensures.none
    (λ d. namespace_of (g.S.Space.contents (declared.objects_in d))) (λ d. links_at (declared.links_in d)) c.declare_keeping.ensures.ok
