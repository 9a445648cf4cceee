use Rattle.std.proofs.Common.{◌≡◌, take}
use Rattle.acpins_lent.specs.Joined.{joined, ends_from}
use Rattle.acpins_survey_calls.proofs.file_tables.join.Given as goal

abbrev pub invariant-loop-table : goal.invariant-loop-table
invariant-loop-table l = record {
  bytes : l.bytes.items ≡ joined (take l.table-index l.tables);
  ends : l.ends.items ≡ ends_from 0 (take l.table-index l.tables);
}
