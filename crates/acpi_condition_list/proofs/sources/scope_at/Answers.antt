use Rattle.std.proofs.Common.{◌≡◌, ◌∙◌, false, ltb, rules, arith, sym, subst, slice_index_or}
use Rattle.std.proofs.lemmas.Bool.{ltb-true, ltb-false}
use Rattle.std.proofs.lemmas.List.Sorted.{IsPartitionPoint-from_clause, IsPartitionedBy-ltb}
use Rattle.std.proofs.lemmas.Option.{get_or_from_slice_get, slice_get_within}
use Rattle.acpi_survey.specs.declared.remarks.OpenedScope.{OpenedScope as ScopeForm}
use Rattle.acpi_ranges.proofs.PlacedLists.{found_at}
use Rattle.acpi_condition_list.proofs.sources.scope_at.Goals as goal

pub returns-clause-first : goal.returns-clause-first
returns-clause-first c sorted =
    let n = (λ (o : ScopeForm). o.place) in
    let xs = c.args.scopes.now in
    let place = c.args.place in
    let count = c.partition_point-number.result in
    let point = IsPartitionPoint-from_clause (λ x. ltb (n x) place) _ _ c.partition_point-number.ensures.partitioned (IsPartitionedBy-ltb n _ place sorted) (λ a r q k. search rules) in
    c.scope_there.ensures.there
    ∙ sym (found_at n place xs count sorted (λ i d lt in_range. ltb-true (n (slice_index_or xs i d)) place (point.0 i d (omega arith) lt))
    (λ x e. ltb-false (n x) place (subst (λ x. ltb (n x) place ≡ false) (get_or_from_slice_get xs count x x e) (point.1 count x (omega arith) (slice_get_within xs count x e)))))
