use Rattle.std.proofs.Common.{◌≡◌, length}
use Rattle.acpi_space.specs.Lookups.{union}
use Rattle.acpi_pass.specs.Pending.{all_pending_of}
use Rattle.acpi_pass.specs.Links.{links_of, links_at}
use Rattle.acpi_pass.specs.Namespace.{namespace_of}
use Rattle.acpi_pass.proofs.links.search_links.Given as goal

abbrev pub invariant-loop-link : goal.invariant-loop-link
invariant-loop-link g l =
    union (links_at l.links) (links_of (namespace_of (g.S.Space.contents l.objects)) (all_pending_of l.left.items))
    ≡ links_of (namespace_of (g.S.Space.contents l.objects)) (all_pending_of l.initial.left.items)

abbrev pub decreases-loop-link : goal.decreases-loop-link
decreases-loop-link g l = length l.left.items
