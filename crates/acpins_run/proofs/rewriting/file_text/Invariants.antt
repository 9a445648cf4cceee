use Rattle.std.proofs.Common.{◌≡◌, map, take}
use Rattle.acpins_run.specs.Rewritten.{file_text}
use Rattle.acpins_run.proofs.rewriting.file_text.Given as goal

abbrev pub invariant-loop-table : goal.invariant-loop-table
invariant-loop-table l = l.text.items ≡ file_text l.hex (map (λ t. t.items) (take l.table-index l.tables))
