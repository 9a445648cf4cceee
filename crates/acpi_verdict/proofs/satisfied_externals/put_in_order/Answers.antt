use Rattle.std.proofs.lemmas.List.Filters.{dedup_is}
use Rattle.std.proofs.lemmas.List.Kept.{IsStrictlySortedBy-dedup}
use Rattle.acpi_verdict.proofs.PutExternals.{satisfied_total, same_ties, among_in_order}
use Rattle.acpi_verdict.proofs.satisfied_externals.put_in_order.Goals as goal

pub returns-clause-ascend : goal.returns-clause-ascend
returns-clause-ascend c = rw (dedup_is _ _ _ c.dedup.ensures.filtered) (IsStrictlySortedBy-dedup satisfied_total same_ties _ c.sort_unstable.ensures.sorted)

pub returns-clause-same : goal.returns-clause-same
returns-clause-same c = rw (dedup_is _ _ _ c.dedup.ensures.filtered) (among_in_order _ _ c.sort_unstable.ensures.permutation)
