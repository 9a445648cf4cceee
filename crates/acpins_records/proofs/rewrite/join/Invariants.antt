use Rattle.std.proofs.Common.{◌≡◌, map, take}
use Rattle.acpins_records.specs.Rewrites.{joined, ends_from}
use Rattle.acpins_records.proofs.rewrite.join.Given as goal

abbrev pub invariant-loop-table : goal.invariant-loop-table
invariant-loop-table l = record {
  bytes : l.bytes.items ≡ joined (map (λ t. t.items) (take l.table-index l.tables));
  ends : l.ends.items ≡ ends_from 0 (map (λ t. t.items) (take l.table-index l.tables));
}
