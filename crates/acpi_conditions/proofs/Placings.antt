-- Where terms are placed.
use Rattle.std.proofs.Common.{◌≡◌, ◌≢◌, ℕ, zero, suc, ◌+◌, ◌<◌, ◌≤◌, ◌==◌, Bool, true, false, cond, not, List, [], ◌∷◌, ◌++◌, length, drop, slice_index_or, option_to_list, None, Ok, Err, refl, sym, ap, ◌∙◌, arith, append_assoc, append-nil}
use Rattle.std.specs.List.{last_or, filter}
use Rattle.std.proofs.lemmas.List.{drop_more}
use Rattle.acpi_name.specs.Names.{NameParts}
use Rattle.acpi_name.specs.Paths.{place_of, parent_of}
use Rattle.acpi_space.proofs.Maps.{no_length}
use Rattle.acpi_conditions.specs.Entries.{Path, Why, not_a_scope, unsure}
use Rattle.acpi_conditions.specs.Known.{Known, is_possible_scope, candidates, why_missing, opened_in, opened_at}

-- a path is its parent and its last segment, where it has one
pub parent_and_last : (p : Path) → parent_of p ++ option_to_list (last_or None p) ≡ p
parent_and_last [] = refl
parent_and_last (x ∷ []) = refl
parent_and_last (x ∷ y ∷ ys) = ap (λ r. x ∷ r) (parent_and_last (y ∷ ys) ∙ refl)

pub opened_none : (k : Known) (s : Path) (n : NameParts) (ps : List Path) → ps ≡ candidates k s n → ps ≡ [] → opened_at k s n ≡ Err (why_missing s (place_of s n))
opened_none k s n ps e f = ap (opened_in k (why_missing s (place_of s n))) (sym e ∙ f)

pub opened_one : (k : Known) (s : Path) (n : NameParts) (ps : List Path) (p : Path) → ps ≡ candidates k s n → ps ≡ p ∷ []
    → opened_at k s n ≡ cond (is_possible_scope k p) (Ok p) (Err (not_a_scope p))
opened_one k s n ps p e f = ap (opened_in k (why_missing s (place_of s n))) (sym e ∙ f)

pub not_alone : (b : Bool) (n : ℕ) → b ≡ (n == 0) → b ≡ false → n ≡ 0 → ⊥
not_alone b n e f z = let t : b ≡ true = e ∙ ap (λ n. n == 0) z in cc

opened_two : (k : Known) (why : Why) (qs : List Path) (p : Path) → qs ≢ [] → opened_in k why (qs ++ p ∷ []) ≡ Err (unsure (qs ++ p ∷ []))
opened_two k why [] p h = absurd (h refl)
opened_two k why (q ∷ []) p h = refl
opened_two k why (q ∷ r ∷ rs) p h = refl

pub opened_several : (k : Known) (s : Path) (n : NameParts) (ps qs : List Path) (p : Path) (all : List Path) → ps ≡ candidates k s n → ps ≡ qs ++ p ∷ [] → all ≡ qs ++ p ∷ [] → qs ≢ []
    → opened_at k s n ≡ Err (unsure all)
opened_several k s n ps qs p all e f is some =
    ap (opened_in k (why_missing s (place_of s n))) (sym e ∙ f) ∙ opened_two k (why_missing s (place_of s n)) qs p some ∙ ap (λ l. Err (unsure l)) (sym is)

-- ---- names that are asked for

asked_cases : (b : Bool) (x : NameParts) (rest : List NameParts) → cond b [] (x ∷ []) ++ rest ≡ cond (not b) (x ∷ rest) rest
asked_cases true x rest = refl
asked_cases false x rest = refl

drop_next : (names : List NameParts) (i : ℕ) (x : NameParts) → i < length names → x ≡ slice_index_or names i x → drop i names ≡ x ∷ drop (i + 1) names
drop_next names i x l is = drop_more names i x l ∙ ap (λ y. y ∷ drop (i + 1) names) (sym is)

pub ask_more : (test : NameParts → Bool) (names asked more : List NameParts) (i : ℕ) (x : NameParts) → i < length names → x ≡ slice_index_or names i x
    → asked ++ filter (λ n. not (test n)) (drop i names) ≡ filter (λ n. not (test n)) names → more ≡ asked ++ cond (test x) [] (x ∷ [])
    → more ++ filter (λ n. not (test n)) (drop (i + 1) names) ≡ filter (λ n. not (test n)) names
ask_more test names asked more i x l is h e =
    let rest : List NameParts = filter (λ n. not (test n)) (drop (i + 1) names) in
    ap (λ q. q ++ rest) e ∙ append_assoc asked (cond (test x) [] (x ∷ [])) rest ∙ ap (λ q. asked ++ q) (asked_cases (test x) x rest)
    ∙ ap (λ q. asked ++ filter (λ n. not (test n)) q) (sym (drop_next names i x l is)) ∙ h

drop_past : {A : Type 0} (xs : List A) (i : ℕ) → length xs ≤ i → drop i xs ≡ []
drop_past xs zero l = no_length xs (omega arith)
drop_past [] (suc i) l = refl
drop_past (x ∷ xs) (suc i) l = drop_past xs i (omega arith)

pub all_asked : (test : NameParts → Bool) (names asked : List NameParts) (i : ℕ) → length names ≤ i → asked ++ filter test (drop i names) ≡ filter test names → asked ≡ filter test names
all_asked test names asked i l h = sym (append-nil asked) ∙ ap (λ q. asked ++ filter test q) (sym (drop_past names i l)) ∙ h
