-- What a reading of a name says about its bytes.
use Rattle.std.proofs.Common.{◌≡◌, ℕ, ◌+◌, ◌-◌, ◌↔◌, List, length, take, drop, Result, Ok, Err, refl, sym, ap, subst, ◌∙◌, arith}
use Rattle.std.proofs.lemmas.List.{length-append, length-drop, take-append-drop, take_at, drop_at}
use Rattle.acpi_name.specs.Names.{NameParts}
use Rattle.acpi_name.specs.Spelling.{SpellsName, BeginsWithName, HasName, IsCutName, HasBadChar, HasZeroCount, HasTooManyUps}
use Rattle.acpi_name.specs.declared.reading.NameFault.{NameFault}
use Rattle.acpi_name.specs.declared.reading.NameFault.TheVariants.{Cut, BadChar, ZeroCount, TooManyUps}
use Rattle.std.specs.Prelude.{IfOk}
use Rattle.acpi_name.specs.Reading.{Answers, name_at}
use Rattle.acpi_name.proofs.NameAgain.{name_again}
use Rattle.acpi_name.proofs.NameTook.{done, ok_is, name_took}
use Rattle.acpi_name.proofs.NameFaults.{failed, fault_is, ok_no_err, name_cut, cut_name, name_zero, zero_name, name_many, many_name}

-- a name that stands at the front is read
pub begins_read : (n : NameParts) (count : ℕ) (bytes : List ℕ) → BeginsWithName n count bytes → name_at bytes ≡ Ok (n, drop count bytes)
begins_read n count bytes h = ap name_at (sym (take-append-drop count bytes)) ∙ name_again n (take count bytes) (drop count bytes) h.spells

pub record OkTold (bytes : List ℕ) (n : NameParts) (rest : List ℕ) : Type 0 where
  pub found : BeginsWithName n (length bytes - length rest) bytes
  pub behind : drop (length bytes - length rest) bytes ≡ rest

pub ok_told : (bytes : List ℕ) (n : NameParts) (rest : List ℕ) → name_at bytes ≡ Ok (n, rest) → OkTold bytes n rest
ok_told bytes n rest e =
    let t = name_took bytes (n, rest) e in
    let len : length bytes ≡ length t.front + length rest = ap length t.whole ∙ length-append t.front rest in
    let count : length t.front ≡ length bytes - length rest = omega arith in
    let front : take (length bytes - length rest) bytes ≡ t.front = ap (take (length bytes - length rest)) t.whole ∙ take_at t.front rest (length bytes - length rest) count in
    let back : drop (length bytes - length rest) bytes ≡ rest = ap (drop (length bytes - length rest)) t.whole ∙ drop_at t.front rest (length bytes - length rest) count in
    record { found = record { within = omega arith; spells = subst (SpellsName n) (sym front) t.spells }; behind = back }

pub ok_only : (bytes : List ℕ) (n : NameParts) (rest : List ℕ) → name_at bytes ≡ Ok (n, rest)
    → (m : NameParts) (count : ℕ) → BeginsWithName m count bytes → (n ≡ m) × (length bytes - length rest ≡ count)
ok_only bytes n rest e m count h =
    let same = ok_is (n, rest) (m, drop count bytes) (sym e ∙ begins_read m count bytes h) in
    let rest_is : rest ≡ drop count bytes = ap (λ (p : NameParts × List ℕ). p.1) same in
    let len : length rest ≡ length bytes - count = ap length rest_is ∙ length-drop count bytes in
    (ap (λ (p : NameParts × List ℕ). p.0) same, omega (arith, h.within))

-- what the fault that is told says
pub fault_cut : (bytes : List ℕ) (f : NameFault) → name_at bytes ≡ Err f → (f ≡ Cut) ↔ IsCutName bytes
fault_cut bytes f e = (λ h. name_cut bytes (e ∙ ap failed h), λ h. fault_is {A = NameParts × List ℕ} f Cut (sym e ∙ cut_name bytes h))

pub fault_zero : (bytes : List ℕ) (f : NameFault) → name_at bytes ≡ Err f → (f ≡ ZeroCount) ↔ HasZeroCount bytes
fault_zero bytes f e = (λ h. name_zero bytes (e ∙ ap failed h), λ h. fault_is {A = NameParts × List ℕ} f ZeroCount (sym e ∙ zero_name bytes h))

pub fault_many : (bytes : List ℕ) (f : NameFault) → name_at bytes ≡ Err f → (f ≡ TooManyUps) ↔ HasTooManyUps bytes
fault_many bytes f e = (λ h. name_many bytes (e ∙ ap failed h), λ h. fault_is {A = NameParts × List ℕ} f TooManyUps (sym e ∙ many_name bytes h))

pub fault_no_name : (bytes : List ℕ) (f : NameFault) → name_at bytes ≡ Err f → HasName bytes → ⊥
fault_no_name bytes f e h = ok_no_err (h.0, drop h.1 bytes) f (sym (begins_read h.0 h.1 bytes h.2) ∙ e)

pub fault_bad : (bytes : List ℕ) (f : NameFault) → name_at bytes ≡ Err f → (f ≡ BadChar) ↔ HasBadChar bytes
fault_bad bytes f e = (λ h. bad h, λ h. which f e h)
  where
    bad : f ≡ BadChar → HasBadChar bytes
    bad h = record {
      no_name = fault_no_name bytes f e;
      not_cut = λ k. let g = (fault_cut bytes f e).1 k in absurd cc;
      no_zero_count = λ k. let g = (fault_zero bytes f e).1 k in absurd cc;
      few_ups = λ k. let g = (fault_many bytes f e).1 k in absurd cc;
    }

    which : (g : NameFault) → name_at bytes ≡ Err g → HasBadChar bytes → g ≡ BadChar
    which Cut d h = absurd (h.not_cut (name_cut bytes d))
    which BadChar d h = refl
    which ZeroCount d h = absurd (h.no_zero_count (name_zero bytes d))
    which TooManyUps d h = absurd (h.few_ups (name_many bytes d))

-- the same of a result of any type
pub err_iff : {A : Type 0} {P : Type 0} (f g : NameFault) → ((f ≡ g) ↔ P) → (failed {A = A} f ≡ failed g) ↔ P
err_iff f g h = (λ e. h.0 (fault_is f g e), λ p. ap failed (h.1 p))

-- an answer is no fault
pub ok_iff : {A : Type 0} {P : Type 0} (x : A) (g : NameFault) → (P → ⊥) → (done x ≡ failed g) ↔ P
ok_iff x g never = (λ e. absurd (ok_no_err x g e), λ p. absurd (never p))

pub ok_not_cut : (bytes : List ℕ) (x : NameParts × List ℕ) → name_at bytes ≡ Ok x → IsCutName bytes → ⊥
ok_not_cut bytes x e h = ok_no_err x Cut (sym e ∙ cut_name bytes h)

pub ok_not_zero : (bytes : List ℕ) (x : NameParts × List ℕ) → name_at bytes ≡ Ok x → HasZeroCount bytes → ⊥
ok_not_zero bytes x e h = ok_no_err x ZeroCount (sym e ∙ zero_name bytes h)

pub ok_not_many : (bytes : List ℕ) (x : NameParts × List ℕ) → name_at bytes ≡ Ok x → HasTooManyUps bytes → ⊥
ok_not_many bytes x e h = ok_no_err x TooManyUps (sym e ∙ many_name bytes h)

pub ok_not_bad : (bytes : List ℕ) (n : NameParts) (rest : List ℕ) → name_at bytes ≡ Ok (n, rest) → HasBadChar bytes → ⊥
ok_not_bad bytes n rest e h = h.no_name (n, length bytes - length rest, (ok_told bytes n rest e).found)

-- ---- what the public contract says is the reading

abbrev pub Says : NameFault → List ℕ → Type 0
Says Cut bytes = IsCutName bytes
Says BadChar bytes = HasBadChar bytes
Says ZeroCount bytes = HasZeroCount bytes
Says TooManyUps bytes = HasTooManyUps bytes

pub fault_read : (bytes : List ℕ) (f : NameFault) → Says f bytes → name_at bytes ≡ Err f
fault_read bytes f says = by_reading (name_at bytes) refl
  where
    no_name : (f : NameFault) → Says f bytes → (x : NameParts × List ℕ) → name_at bytes ≡ Ok x → ⊥
    no_name Cut h x e = ok_not_cut bytes x e h
    no_name BadChar h x e = ok_not_bad bytes x.0 x.1 e h
    no_name ZeroCount h x e = ok_not_zero bytes x e h
    no_name TooManyUps h x e = ok_not_many bytes x e h

    same : (f g : NameFault) → Says f bytes → name_at bytes ≡ Err g → g ≡ f
    same Cut g h e = (fault_cut bytes g e).1 h
    same BadChar g h e = (fault_bad bytes g e).1 h
    same ZeroCount g h e = (fault_zero bytes g e).1 h
    same TooManyUps g h e = (fault_many bytes g e).1 h

    by_reading : (r : Result (NameParts × List ℕ) NameFault) → name_at bytes ≡ r → name_at bytes ≡ Err f
    by_reading (Ok x) e = absurd (no_name f says x e)
    by_reading (Err g) e = e ∙ ap failed (same f g says e)

-- a result that says what `read_name` says is what the reading gives
pub name_exact : {X : Type 0} (parts : X → NameParts) (bytes : List ℕ) (r : Result (X × ℕ) NameFault) → IfOk r (λ x. BeginsWithName (parts x.0) x.1 bytes)
    → ((r ≡ Err Cut) ↔ IsCutName bytes) → ((r ≡ Err BadChar) ↔ HasBadChar bytes) → ((r ≡ Err ZeroCount) ↔ HasZeroCount bytes) → ((r ≡ Err TooManyUps) ↔ HasTooManyUps bytes)
    → Answers (λ x. (parts x.0, drop x.1 bytes)) r (name_at bytes)
name_exact parts bytes (Ok x) found cut bad zero many = begins_read (parts x.0) x.1 bytes found
name_exact parts bytes (Err Cut) found cut bad zero many = fault_read bytes Cut (cut.0 refl)
name_exact parts bytes (Err BadChar) found cut bad zero many = fault_read bytes BadChar (bad.0 refl)
name_exact parts bytes (Err ZeroCount) found cut bad zero many = fault_read bytes ZeroCount (zero.0 refl)
name_exact parts bytes (Err TooManyUps) found cut bad zero many = fault_read bytes TooManyUps (many.0 refl)
