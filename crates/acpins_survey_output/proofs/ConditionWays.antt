-- Conditions that are told literal by literal, the last first.
use Rattle.std.proofs.Common.{◌≡◌, ◌∙◌, ℕ, true, false, List, [], ◌∷◌, ◌++◌, length, map, reverse, Option, Some, None, slice_get, option_map, unwrap_or, codes, append-nil, append_assoc, arith, refl, ap, sym, subst}
use Rattle.std.specs.Prelude.{is_some}
use Rattle.std.specs.List.{flat_map}
use Rattle.std.specs.Option.{option_and_then}
use Rattle.std.proofs.lemmas.Grind.{flat_map-append}
use Rattle.std.proofs.lemmas.List.{length-append, length-map, reverse-append}
use Rattle.std.proofs.lemmas.List.Folds.{flat_map-map}
use Rattle.std.proofs.lemmas.Option.{slice_get-map}
use Rattle.acpi_condition_list.specs.ConditionLists.{IsCondition, IsWay, nothing, behind, source_literal}
use Rattle.acpi_condition_list.specs.declared.list.ConditionStep.{ConditionStep}
use Rattle.acpi_condition_list.specs.declared.sources.LiteralSource.{LiteralSource}
use Rattle.acpi_entries.specs.Condition.{PlacedParts}
use Rattle.acpi_survey.specs.declared.machine_survey.Survey.{Survey}
use Rattle.acpins_survey_output.specs.Conditions.{condition_text, literal_text}
use Rattle.acpins_survey_output.specs.StepTexts.{some_text, source_text, step_text}
use Rattle.acpins_survey_output.specs.declared.condition_steps.StepText.{StepText}
use Rattle.acpins_survey_output.specs.steps.NumberedTexts.{number_before, text_numbered}

-- ---- ways

way_end : (steps : List ConditionStep) (n : ℕ) (xs : List LiteralSource) → IsWay steps (Some n) xs
    → (x : ConditionStep) × (ys : List LiteralSource) × (slice_get steps n ≡ Some x) × IsWay steps x.before ys × (xs ≡ ys ++ x.source ∷ [])
way_end _ _ _ (behind {xs = ys} n x at way) = (x, ys, at, way, refl)

way_none : (steps : List ConditionStep) (xs : List LiteralSource) → IsWay steps None xs → xs ≡ []
way_none _ _ nothing = refl

-- what is left of a way, before literals that are taken from its end and say this
pub record IsLeft (s : Survey) (steps : List ConditionStep) (from : List LiteralSource) (rest : Option ℕ) (taken : List ℕ) : Type 0 where
  pub left : List LiteralSource
  pub way : IsWay steps rest left
  pub texts_are : flat_map (source_text s) from ≡ flat_map (source_text s) left ++ taken

pub none_taken : (s : Survey) (steps : List ConditionStep) (from : List LiteralSource) (texts : List StepText) (last : Option ℕ) (numbers : List ℕ) → numbers ≡ [] → IsWay steps last from
    → IsLeft s steps from last (flat_map (text_numbered texts) (reverse numbers))
none_taken s steps from texts last numbers none way =
    let whole = flat_map (source_text s) from in
    record { left = from; way = way; texts_are = sym (append-nil whole) ∙ ap (λ ns. whole ++ flat_map (text_numbered texts) (reverse ns)) (sym none) }

-- what is said of the last literal of a way
said_at : (s : Survey) (steps : List ConditionStep) (texts : List StepText) (n : ℕ) (x : ConditionStep) → texts ≡ map (step_text s) steps → slice_get steps n ≡ Some x
    → slice_get texts n ≡ Some (step_text s x)
said_at s steps texts n x same at = ap (λ ts. slice_get ts n) same ∙ slice_get-map (step_text s) steps n ∙ ap (option_map (step_text s)) at

-- one literal more
one_taken : (s : Survey) (steps : List ConditionStep) (from : List LiteralSource) (texts : List StepText) (n : ℕ) (taken : List ℕ) → texts ≡ map (step_text s) steps
    → IsLeft s steps from (Some n) taken → IsLeft s steps from (number_before texts n) (text_numbered texts n ++ taken)
one_taken s steps from texts n taken same h =
    let T = source_text s in
    let e = way_end steps n h.left h.way in
    let x : ConditionStep = e.0 in
    let ys : List LiteralSource = e.1 in
    let is : slice_get texts n ≡ Some (step_text s x) = said_at s steps texts n x same e.2 in
    let before : number_before texts n ≡ x.before = ap (option_and_then (λ (t : StepText). t.before)) is in
    let text : text_numbered texts n ≡ T x.source = ap (λ o. unwrap_or (option_map (λ (t : StepText). t.text) o) []) is in
    record {
      left = ys;
      way = subst (λ (o : Option ℕ). IsWay steps o ys) (sym before) e.3;
      texts_are = h.texts_are
          ∙ ap (λ xs. flat_map T xs ++ taken) e.4
          ∙ ap (λ t. t ++ taken) (flat_map-append T ys (x.source ∷ []))
          ∙ ap (λ t. (flat_map T ys ++ t) ++ taken) (append-nil (T x.source))
          ∙ append_assoc (flat_map T ys) (T x.source) taken
          ∙ ap (λ t. flat_map T ys ++ (t ++ taken)) (sym text);
    }

pub number_taken : (s : Survey) (steps : List ConditionStep) (from : List LiteralSource) (texts : List StepText) (rest next : Option ℕ) (n : ℕ) (old new : List ℕ) → texts ≡ map (step_text s) steps
    → rest ≡ Some n → next ≡ number_before texts n → new ≡ old ++ n ∷ [] → IsLeft s steps from rest (flat_map (text_numbered texts) (reverse old))
    → IsLeft s steps from next (flat_map (text_numbered texts) (reverse new))
number_taken s steps from texts rest next n old new same is before put h =
    let T = text_numbered texts in
    let taken : flat_map T (reverse new) ≡ T n ++ flat_map T (reverse old) = ap (λ ns. flat_map T (reverse ns)) put ∙ ap (flat_map T) (reverse-append old (n ∷ [])) in
    subst (λ (o : Option ℕ). IsLeft s steps from o (flat_map T (reverse new))) (sym before)
    (subst (λ (t : List ℕ). IsLeft s steps from (number_before texts n) t) (sym taken)
    (one_taken s steps from texts n (flat_map T (reverse old)) same (subst (λ (o : Option ℕ). IsLeft s steps from o (flat_map T (reverse old))) is h)))

pub all_taken : (s : Survey) (steps : List ConditionStep) (from : List LiteralSource) (rest : Option ℕ) (taken : List ℕ) → rest ≡ None → IsLeft s steps from rest taken → taken ≡ flat_map (source_text s) from
all_taken s steps from rest taken none h =
    let e = way_none steps h.left (subst (λ (o : Option ℕ). IsWay steps o h.left) none h.way) in
    sym (h.texts_are ∙ ap (λ xs. flat_map (source_text s) xs ++ taken) e)

-- ---- conditions

abbrev pub with_text : ConditionStep → List ℕ → StepText
with_text x t = record { before = x.before; text = t }

-- a literal of conditions
pub step_said : (s : Survey) (x : ConditionStep) (l : Option PlacedParts) (start new : List ℕ) → start ≡ [] → new ≡ start ++ some_text l → l ≡ source_literal s x.source
    → with_text x new ≡ step_text s x
step_said s x l start new none put is = ap (with_text x) (put ∙ ap (λ t. t ++ some_text l) none ∙ ap some_text is)

literals_said : (s : Survey) (from : List LiteralSource) (ls : List PlacedParts) → map (source_literal s) from ≡ map (λ l. Some l) ls
    → flat_map (source_text s) from ≡ flat_map (λ l. codes " " ++ literal_text l) ls
literals_said s from ls are =
    sym (flat_map-map some_text (source_literal s) from) ∙ ap (flat_map some_text) are ∙ flat_map-map some_text (λ (l : PlacedParts). Some l) ls

none_said : (ls : List PlacedParts) → map (λ l. Some l) ls ≡ [] → condition_text ls ≡ []
none_said [] are = refl
none_said (l ∷ ls) are = cc

pub no_condition : (s : Survey) (steps : List ConditionStep) (last : Option ℕ) (ls : List PlacedParts) → is_some last ≡ false → IsCondition s steps last ls → condition_text ls ≡ []
no_condition s steps (Some n) ls none c = cc
no_condition s steps None ls none c = none_said ls (sym c.literals_are ∙ ap (map (source_literal s)) (way_none steps c.from c.way))

some_said : (s : Survey) (x : LiteralSource) (xs : List LiteralSource) (ls : List PlacedParts) → map (source_literal s) (xs ++ x ∷ []) ≡ map (λ l. Some l) ls
    → condition_text ls ≡ codes " ?" ++ flat_map (λ l. codes " " ++ literal_text l) ls
some_said s x xs [] are = absurd (omega (arith, length-append xs (x ∷ []), length-map (xs ++ x ∷ []) (source_literal s), ap length are))
some_said s x xs (l ∷ ls) are = refl

some_condition : (s : Survey) (steps : List ConditionStep) (last : Option ℕ) (ls : List PlacedParts) → is_some last ≡ true → (c : IsCondition s steps last ls)
    → condition_text ls ≡ codes " ?" ++ flat_map (source_text s) c.from
some_condition s steps None ls some c = cc
some_condition s steps (Some n) ls some c =
    let e = way_end steps n c.from c.way in
    some_said s e.0.source e.1 ls (sym (ap (map (source_literal s)) e.4) ∙ c.literals_are) ∙ ap (λ t. codes " ?" ++ t) (sym (literals_said s c.from ls c.literals_are))

-- a question mark, and the literals of these numbers
pub condition_put : (s : Survey) (steps : List ConditionStep) (last : Option ℕ) (ls : List PlacedParts) (texts : List StepText) (numbers given : List ℕ) (old mid new : List ℕ) → is_some last ≡ true
    → (c : IsCondition s steps last ls) → flat_map (text_numbered texts) numbers ≡ flat_map (source_text s) c.from → given ≡ numbers → mid ≡ old ++ codes " ?"
    → new ≡ mid ++ flat_map (text_numbered texts) given → new ≡ old ++ condition_text ls
condition_put s steps last ls texts numbers given old mid new some c texts_are same first put =
    let whole = flat_map (source_text s) c.from in
    put
    ∙ ap (λ ns. mid ++ flat_map (text_numbered texts) ns) same
    ∙ ap (λ t. mid ++ t) texts_are
    ∙ ap (λ t. t ++ whole) first
    ∙ append_assoc old (codes " ?") whole
    ∙ ap (λ t. old ++ t) (sym (some_condition s steps last ls some c))
