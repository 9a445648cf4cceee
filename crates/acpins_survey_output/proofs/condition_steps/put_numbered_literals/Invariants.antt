use Rattle.std.proofs.Common.{◌≡◌, ◌++◌, take}
use Rattle.std.specs.List.{flat_map}
use Rattle.acpins_survey_output.specs.steps.NumberedTexts.{text_numbered}
use Rattle.acpins_survey_output.proofs.condition_steps.put_numbered_literals.Given as goal

abbrev pub invariant-loop-number : goal.invariant-loop-number
invariant-loop-number l = l.text ≡ l.initial.text ++ flat_map (text_numbered l.literals) (take l.number-index l.numbers)
