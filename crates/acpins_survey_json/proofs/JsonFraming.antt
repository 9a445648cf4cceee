-- What json puts, piece by piece.
use Rattle.std.proofs.Common.{◌≡◌, ◌∙◌, ℕ, Bool, true, false, nat_lt, cond, decimal, List, Option, ◌++◌, map, append_assoc, ap, refl}
use Rattle.std.specs.Borrow.{Bor}
use Rattle.std.specs.List.{AllZip}
use Rattle.acpi_conditions.specs.Entries.{Path}
use Rattle.acpi_entries.specs.declared.body.MethodBody.{MethodBody}
use Rattle.acpi_survey.specs.declared.machine_survey.Survey.{Survey}
use Rattle.acpins_survey_json.specs.Json.{number, string, value_text, value_lines, array_lines, elements}
use Rattle.acpins_survey_json.specs.JsonBodies.{body_values}
use Rattle.acpins_survey_json.specs.JsonValues.{number_value}
use Rattle.acpi_conditions.specs.ByPath.{lent_pair}
use Rattle.acpins_survey_reasons.specs.Numbered.{IsBodyAt, zip_text}

-- a piece behind another, before a rest
pub piece_put : (mid piece new rest : List ℕ) → new ≡ mid ++ piece → new ++ rest ≡ mid ++ (piece ++ rest)
piece_put mid piece new rest last = ap (λ t. t ++ rest) last ∙ append_assoc mid piece rest

-- a number stands on one line
number_or_digits : (b : Bool) (n : ℕ) → value_lines (cond b (number n) (string (decimal n))) ≡ value_text (cond b (number n) (string (decimal n)))
number_or_digits true n = refl
number_or_digits false n = refl

pub number_lines : (n : ℕ) → value_lines (number_value n) ≡ value_text (number_value n)
number_lines n = number_or_digits (nat_lt n 9007199254740992) n

-- the bodies of entries in an order
abbrev pub PutsBodies : Survey → List (Bor Path × ℕ) → (old new : List ℕ) → Type 0
PutsBodies s order old new = (bs : List (Option MethodBody)) × AllZip (λ (x : Path × ℕ) (b : Option MethodBody). IsBodyAt s x.1 b) (map lent_pair order) bs
    × (new ≡ old ++ array_lines (elements (zip_text (body_values s) (map lent_pair order) bs)))
