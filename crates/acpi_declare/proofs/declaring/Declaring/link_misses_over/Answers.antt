use Rattle.std.proofs.Common.{◌↔◌, List, subst}
use Rattle.std.specs.Prelude.{IfOk, IsTrue}
use Rattle.acpi_name.specs.Names.{Segment}
use Rattle.acpi_space.specs.Laws.{Among}
use Rattle.acpi_space.specs.Wanted.{Wants}
use Rattle.acpi_pass.specs.Pending.{IsMissedLink, all_pending_of}
use Rattle.acpi_pass.specs.Namespace.{namespace_of}
use Rattle.acpi_declare.proofs.declaring.Declaring.link_misses_over.Goals as goal

pub returns : goal.returns
returns g c =
    let objects = namespace_of (g.O.Space.contents c.args.objects.now) in
    subst (λ (w : Wants). IfOk c.misses_of_links.result (λ v. (p : List Segment) → Among v.items p
    ↔ (IsMissedLink objects (all_pending_of c.args.self.now.links.items) p × IsTrue (w p)))) c.new.ensures
    (rw c.deref.ensures.value at c.misses_of_links.ensures)
