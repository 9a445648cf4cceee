-- The lines of statements, as an array of texts.
use Rattle.std.proofs.Common.{◌≡◌, ◌∙◌, ℕ, Bool, false, cond, List, [], ◌∷◌, ◌++◌, sym, ap}
use Rattle.std.proofs.lemmas.Bool.{ne_eqb}
use Rattle.acpins_survey_json.specs.Json.{string, value_text, values_of, more_values_text, element_start, values_behind}
use Rattle.acpins_survey_json.specs.JsonBodies.{lines_from}
use Rattle.acpins_survey_json.proofs.JsonPutting.{value_put}

pub line_ended : (c : ℕ) (is_first : Bool) (line cleared old begun new cs : List ℕ) → c ≡ 10 → cleared ≡ [] → begun ≡ old ++ element_start is_first
    → new ≡ begun ++ value_text (string line)
    → new ++ values_behind false (values_of string (lines_from cleared cs)) ≡ old ++ values_behind is_first (values_of string (lines_from line (c ∷ cs)))
line_ended c is_first line cleared old begun new cs is none first last =
    ap (λ (l : List ℕ). new ++ more_values_text (values_of string (lines_from l cs))) none
    ∙ value_put is_first (string line) (values_of string (lines_from [] cs)) old begun new first last
    ∙ ap (λ (k : ℕ). old ++ values_behind is_first (values_of string (lines_from line (k ∷ cs)))) (sym is)

pub line_grown : (c : ℕ) (is_first : Bool) (line pushed old cs : List ℕ) → (c ≡ 10 → ⊥) → pushed ≡ line ++ c ∷ []
    → old ++ values_behind is_first (values_of string (lines_from pushed cs)) ≡ old ++ values_behind is_first (values_of string (lines_from line (c ∷ cs)))
line_grown c is_first line pushed old cs other is =
    ap (λ (l : List ℕ). old ++ values_behind is_first (values_of string (lines_from l cs))) is
    ∙ ap (λ (b : Bool). old ++ values_behind is_first (values_of string (cond b (line ∷ lines_from [] cs) (lines_from (line ++ c ∷ []) cs)))) (sym (ne_eqb c 10 other))
