use Rattle.std.proofs.Common.{rules}
use Rattle.std.proofs.Math.Dec.{leb}
use Rattle.std.proofs.lemmas.List.Sorted.{IsPartitionPoint-from_clause, IsPartitionedBy-leb}
use Rattle.acpi_overview.specs.declared.claims.Claim.{Claim}
use Rattle.acpi_overview.proofs.Furthest.{free_at_end, free_at_none, furthest_found}
use Rattle.acpi_overview.proofs.claims.KindClaims.furthest_at.Goals as goal

pub returns-then-count-eq0 : goal.returns-then-count-eq0
returns-then-count-eq0 c =
    let point = IsPartitionPoint-from_clause (λ (one : Claim). leb one.from c.args.address) _ _ c.partition_point-count.ensures.partitioned
    (IsPartitionedBy-leb (λ (one : Claim). one.from) _ c.args.address (rw c.deref.ensures.value c.self.invariant.0)) (λ a r q k. search rules) in
    rw (← c.self.view_is, ← c.deref.ensures.value) (free_at_none _ _ _ point c.if-count-eq0.true)

pub returns-then-address-claim : goal.returns-then-address-claim
returns-then-address-claim c =
    let point = IsPartitionPoint-from_clause (λ (one : Claim). leb one.from c.args.address) _ _ c.partition_point-count.ensures.partitioned
    (IsPartitionedBy-leb (λ (one : Claim). one.from) _ c.args.address (rw c.deref.ensures.value c.self.invariant.0)) (λ a r q k. search rules) in
    rw (← c.self.view_is) (furthest_found _ _ _ (rw c.deref.ensures.value at point) _ c.self.invariant.1 c.if-count-eq0.false
    (rw c.deref.ensures.value at c.partition_point-count.ensures.bound) _ c.index.ensures _ c.index-claim.ensures c.if-address-claim.true)

pub returns-else-address-claim : goal.returns-else-address-claim
returns-else-address-claim c =
    let point = IsPartitionPoint-from_clause (λ (one : Claim). leb one.from c.args.address) _ _ c.partition_point-count.ensures.partitioned
    (IsPartitionedBy-leb (λ (one : Claim). one.from) _ c.args.address (rw c.deref.ensures.value c.self.invariant.0)) (λ a r q k. search rules) in
    rw (← c.self.view_is) (free_at_end _ _ _ (rw c.deref.ensures.value at point) _ c.self.invariant.1 c.if-count-eq0.false
    (rw c.deref.ensures.value at c.partition_point-count.ensures.bound) _ c.index.ensures _ c.index-claim.ensures c.if-address-claim.false)
