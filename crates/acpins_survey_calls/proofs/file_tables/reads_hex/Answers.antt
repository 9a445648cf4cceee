use Rattle.std.proofs.Common.{◌≡◌, ℕ, Bool, true, false, List, refl, sym, subst, rules}
use Rattle.acpins_io.specs.Dump.{is_header}
use Rattle.acpins_survey_calls.specs.FileTables.{HasForm, IsHex, any_hex, any_other, plain, dump, hexadecimal}
use Rattle.acpins_survey_calls.proofs.file_tables.reads_hex.Goals as goal

any_form : (file : List ℕ) (hex : Bool) → (hex ≡ true → IsHex file) → (hex ≡ false → IsHex file → ⊥) → HasForm file 0 hex
any_form file true is other = any_hex (is refl)
any_form file false is other = any_other (other refl)

pub returns-in_ok-is_hex-in-0-clause-some : goal.returns-in_ok-is_hex-in-0-clause-some
returns-in_ok-is_hex-in-0-clause-some c =
    let file = c.args.file.now in
    let hex = c.in_ok-is_hex-in-0.field-0 in
    subst (λ form. HasForm file form hex) (sym c.in-0.is) (any_form file hex c.in_ok-is_hex-in-0.ensures.yes c.in_ok-is_hex-in-0.ensures.no)

pub returns-in-1-clause-some : goal.returns-in-1-clause-some
returns-in-1-clause-some c =
    let file = c.args.file.now in
    let other : is_header file ≡ false = search rules in
    subst (λ form. HasForm file form false) (sym c.in-1.is) (plain other)

pub returns-in-2-clause-some : goal.returns-in-2-clause-some
returns-in-2-clause-some c =
    let file = c.args.file.now in
    let begins : is_header file ≡ true = search rules in
    subst (λ form. HasForm file form false) (sym c.in-2.is) (dump begins)

pub returns-in-3-clause-some : goal.returns-in-3-clause-some
returns-in-3-clause-some c = subst (λ form. HasForm c.args.file.now form true) (sym c.in-3.is) hexadecimal
