use Rattle.std.proofs.Common.{ltb, rules}
use Rattle.std.proofs.lemmas.List.Sorted.{IsPartitionPoint-from_clause, IsPartitionedBy-ltb}
use Rattle.acpi_ranges.proofs.lookup.fields_before.Goals as goal

pub returns : goal.returns
returns c sorted =
    let parted = IsPartitionedBy-ltb (λ f. f.place) _ c.args.place sorted in
    IsPartitionPoint-from_clause (λ f. ltb f.place c.args.place) _ _ c.partition_point.ensures.partitioned parted (λ a r q k. search rules)
