use Rattle.std.proofs.Common.{◌≡◌, drop}
use Rattle.acpins_survey_words.specs.Words.{is_width}
use Rattle.acpins_survey_words.proofs.WidthText.{width_after}
use Rattle.acpins_survey_words.proofs.words.width_of.Given as goal

abbrev pub invariant-loop-digit : goal.invariant-loop-digit
invariant-loop-digit l = width_after l.width (drop l.digit-index l.digit-items) ≡ is_width l.text
