-- Satisfied Externals, one more.
use Rattle.std.proofs.Common.{◌≡◌, ℕ, ◌+◌, ◌<◌, List, [], ◌∷◌, ◌++◌, length, take, get_or, sym, ap, ◌∙◌, arith, add-zero, zero-add, length-append}
use Rattle.std.proofs.lemmas.Grind.{flat_map-append}
use Rattle.std.proofs.lemmas.List.{take_more, append-nil}
use Rattle.acpi_name.specs.Text.{path_text}
use Rattle.acpi_verdict.specs.declared.verdicts.Satisfied.{Satisfied}
use Rattle.acpins_records.specs.declared.check.SatisfiedRecord.{SatisfiedRecord}
use Rattle.acpins_records.specs.Checks.{satisfied_from, satisfied_text}

abbrev pub satisfied_record : (user definer path path_length : ℕ) → SatisfiedRecord
satisfied_record user definer path path_length = record { user = user; definer = definer; path = path; path_length = path_length }

satisfied_more : (begin : ℕ) (ts : List Satisfied) (t : Satisfied)
    → satisfied_from begin (ts ++ t ∷ [])
    ≡ satisfied_from begin ts ++ record { user = t.user; definer = t.definer; path = begin + length (satisfied_text ts); path_length = length (path_text t.path) } ∷ []
satisfied_more begin [] t = ap (λ n. record { user = t.user; definer = t.definer; path = n; path_length = length (path_text t.path) } ∷ []) (sym (add-zero begin))
satisfied_more begin (u ∷ ts) t =
    let place : (begin + length (path_text u.path)) + length (satisfied_text ts) ≡ begin + length (path_text u.path ++ satisfied_text ts) =
    omega (arith, length-append (path_text u.path) (satisfied_text ts)) in
    ap (λ l. record { user = u.user; definer = u.definer; path = begin; path_length = length (path_text u.path) } ∷ l)
    (satisfied_more (begin + length (path_text u.path)) ts t
    ∙ ap (λ n. satisfied_from (begin + length (path_text u.path)) ts ++ record { user = t.user; definer = t.definer; path = n; path_length = length (path_text t.path) } ∷ []) place)

text_more : (ts : List Satisfied) (t : Satisfied) → satisfied_text (ts ++ t ∷ []) ≡ satisfied_text ts ++ path_text t.path
text_more ts t = flat_map-append (λ (x : Satisfied). path_text x.path) ts (t ∷ []) ∙ ap (λ l. satisfied_text ts ++ l) (append-nil (path_text t.path))

-- the next one of a list that is gone through
pub satisfied_next : (xs : List Satisfied) (i : ℕ) (x : Satisfied) (text : List ℕ) (old new : List SatisfiedRecord) → i < length xs → x ≡ get_or xs i x
    → text ≡ satisfied_text (take i xs) → old ≡ satisfied_from 0 (take i xs)
    → new ≡ old ++ record { user = x.user; definer = x.definer; path = length text; path_length = length (path_text x.path) } ∷ []
    → new ≡ satisfied_from 0 (take (i + 1) xs)
satisfied_next xs i x text old new within is text_is so put =
    put ∙ ap (λ l. l ++ record { user = x.user; definer = x.definer; path = length text; path_length = length (path_text x.path) } ∷ []) so
    ∙ ap (λ n. satisfied_from 0 (take i xs) ++ record { user = x.user; definer = x.definer; path = n; path_length = length (path_text x.path) } ∷ []) (ap length text_is ∙ sym (zero-add _))
    ∙ sym (satisfied_more 0 (take i xs) x)
    ∙ ap (satisfied_from 0) (sym (take_more xs i x within ∙ ap (λ z. take i xs ++ z ∷ []) (sym is)))

pub text_next : (xs : List Satisfied) (i : ℕ) (x : Satisfied) (old new : List ℕ) → i < length xs → x ≡ get_or xs i x
    → old ≡ satisfied_text (take i xs) → new ≡ old ++ path_text x.path → new ≡ satisfied_text (take (i + 1) xs)
text_next xs i x old new within is so put =
    put ∙ ap (λ l. l ++ path_text x.path) so ∙ sym (text_more (take i xs) x) ∙ ap satisfied_text (sym (take_more xs i x within ∙ ap (λ z. take i xs ++ z ∷ []) (sym is)))
