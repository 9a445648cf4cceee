use Rattle.std.proofs.Common.{◌≢◌, take, string_bytes}
use Rattle.std.specs.List.{All}
use Rattle.acpins_survey_run.proofs.writing.is_among.Given as goal

abbrev pub invariant-loop-file : goal.invariant-loop-file
invariant-loop-file l = All (λ file. string_bytes file ≢ l.name) (take l.file-index l.files)
