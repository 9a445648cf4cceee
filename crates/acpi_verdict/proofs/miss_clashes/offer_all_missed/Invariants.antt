use Rattle.std.proofs.Common.{map, Option}
use Rattle.std.specs.Vec.Iter.{into_iter_items}
use Rattle.acpi_verdict.specs.declared.clashes.Clash.{Clash}
use Rattle.acpi_verdict.specs.steps.Clashing.{Offers}
use Rattle.acpi_verdict.specs.steps.Finding.{IsMissedOf}
use Rattle.acpi_verdict.proofs.PathSets.{paths_in}
use Rattle.acpi_verdict.proofs.miss_clashes.offer_all_missed.Given as goal

-- with what the paths that are left offer, all of them offer
abbrev pub invariant-loop-path : goal.invariant-loop-path
invariant-loop-path l =
    (now : Option Clash) → Offers l.clash now (IsMissedOf l.definers l.searcher (paths_in (map (λ e. (e.0, e.1.now)) (into_iter_items l.path-iterator))))
    → Offers l.initial.clash now (IsMissedOf l.definers l.searcher (paths_in (map (λ e. (e.0, e.1.now)) (into_iter_items l.initial.path-iterator))))
