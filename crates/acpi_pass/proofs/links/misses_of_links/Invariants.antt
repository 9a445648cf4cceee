use Rattle.std.proofs.Common.{◌↔◌, List, take}
use Rattle.std.specs.Prelude.{IsTrue}
use Rattle.acpi_name.specs.Names.{Segment}
use Rattle.acpi_space.specs.Laws.{Among}
use Rattle.acpi_pass.specs.Pending.{IsMissedLink, all_pending_of}
use Rattle.acpi_pass.specs.Namespace.{namespace_of}
use Rattle.acpi_pass.proofs.links.misses_of_links.Given as goal

abbrev pub invariant-loop-link : goal.invariant-loop-link
invariant-loop-link g l = (p : List Segment) → Among l.missed.items p ↔
    (IsMissedLink (namespace_of (g.S.Space.contents l.objects)) (all_pending_of (take l.link-index l.pending)) p
    × IsTrue (g.Q.Wanted.wanted l.wanted p))
