use Rattle.std.proofs.Common.{map, take}
use Rattle.acpins_survey_run.specs.Input.{ArePiecesOfEach}
use Rattle.acpins_survey_run.proofs.tables.pieces_of_each.Given as goal

abbrev pub invariant-loop-source : goal.invariant-loop-source
invariant-loop-source l = ArePiecesOfEach (map (λ v. v.items) (take l.source-index l.sources)) l.tables.items
