use Rattle.std.proofs.Common.{◌≡◌, ℕ, Bool, true, false, true≢false, List, [], Some, None, refl, sym, subst, rules}
use Rattle.acpins_io.specs.Hexadecimal.{SpellsInHex}
use Rattle.acpins_survey_run.specs.Input.{HoldsTables, IsFileFault}
use Rattle.acpins_survey_calls.specs.FileTables.{HasForm, any_hex, any_other, plain, dump, hexadecimal}
use Rattle.acpins_survey_calls.proofs.file_tables.joined_in.Goals as goal

only_form : (file : List ℕ) (form : ℕ) (a b : Bool) → HasForm file form a → HasForm file form b → a ≡ b
only_form file _ _ _ (any_hex x) (any_hex y) = refl
only_form file _ _ _ (any_hex x) (any_other y) = absurd (y x)
only_form file _ _ _ (any_other x) (any_hex y) = absurd (x y)
only_form file _ _ _ (any_other x) (any_other y) = refl
only_form file _ _ _ (plain x) (plain y) = refl
only_form file _ _ _ (dump x) (dump y) = refl
only_form file _ _ _ hexadecimal hexadecimal = refl

-- a file that spells no bytes in hexadecimal has no other form
no_tables : (file : List ℕ) (form : ℕ) (hex other : Bool) (tables : List (List ℕ)) → HasForm file form hex → hex ≡ true
    → ((bytes : List ℕ) → SpellsInHex bytes file → ⊥) → HasForm file form other → HoldsTables other file tables → ⊥
no_tables file form true true tables has is none also (bytes, spells, pieces) = none bytes spells
no_tables file form true false tables has is none also holds = true≢false (only_form file form true false has also)
no_tables file form false other tables has is none also holds = absurd (true≢false (sym is))

pub returns-in-Err-BadHex-clause-none : goal.returns-in-Err-BadHex-clause-none
returns-in-Err-BadHex-clause-none c = λ none other tables also holds.
    let has : HasForm c.args.file.now c.args.form c.in-Some.hex = search rules in
    let fault = subst (λ f. IsFileFault c.in-Some.hex [] (Some c.in_ok-content.content.items) None f) c.in-Err-BadHex.field-0-is c.in-Err-BadHex.ensures.err in
    let spelled = subst (λ (l : List ℕ). (bytes : List ℕ) → SpellsInHex bytes l → ⊥) c.in_ok-content.ensures.items fault.2 in
    no_tables c.args.file.now c.args.form c.in-Some.hex other tables has fault.1 spelled also holds
