use Rattle.std.proofs.Common.{leb, rules}
use Rattle.std.proofs.lemmas.List.Sorted.{IsPartitionPoint-from_clause, IsPartitionedBy-leb}
use Rattle.acpi_ranges.proofs.lookup.count_before.Goals as goal

pub returns-clause-parted : goal.returns-clause-parted
returns-clause-parted c sorted =
    let parted = IsPartitionedBy-leb (λ n. n.place) _ c.args.place sorted in
    IsPartitionPoint-from_clause (λ n. leb n.place c.args.place) _ _ c.partition_point.ensures.partitioned parted (λ a r q k. search rules)
