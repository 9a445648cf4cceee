use Rattle.std.proofs.Common.{◌≡◌, drop}
use Rattle.clap.specs.Walk.{texts}
use Rattle.acpins_survey_words.specs.Words.{ids_of}
use Rattle.acpins_survey_words.proofs.Ids.{ids_behind}
use Rattle.acpins_survey_words.proofs.words.ids_of.Given as goal

abbrev pub invariant-loop-word : goal.invariant-loop-word
invariant-loop-word l = ids_behind l.ids.items (texts (drop l.word-index l.words)) ≡ ids_of (texts l.words)
