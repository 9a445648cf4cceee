-- Literals of conditions in words, by their numbers.
use Rattle.std.specs.Prelude.{ℕ, List, [], Option, slice_get, unwrap_or}
use Rattle.std.specs.Option.{option_and_then, option_map}
use Rattle.acpins_survey_output.specs.declared.condition_steps.StepText.{StepText}

-- the text of that number; nothing where there is none
abbrev pub text_numbered : List StepText → ℕ → List ℕ
text_numbered texts n = unwrap_or (option_map (λ t. t.text) (slice_get texts n)) []

-- the number of the literal before that one
abbrev pub number_before : List StepText → ℕ → Option ℕ
number_before texts n = option_and_then (λ t. t.before) (slice_get texts n)
