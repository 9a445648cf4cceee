use Rattle.std.proofs.Common.{◌≡◌, take}
use Rattle.acpins_survey_run.specs.FailureLines.{printed_name}
use Rattle.acpins_survey_run.proofs.lines.printed_name.Given as goal

abbrev pub invariant-loop-c : goal.invariant-loop-c
invariant-loop-c l = l.text.items ≡ printed_name (take l.c-index l.c-items)
