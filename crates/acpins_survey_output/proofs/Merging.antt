-- Problems and notes, line after line.
use Rattle.std.proofs.Common.{◌≡◌, ◌∙◌, ℕ, ◌-◌, ◌+◌, ◌<◌, ◌≤◌, Bool, true, false, cond, List, [], ◌∷◌, ◌++◌, length, take, drop, get_or, take_all, append_assoc, append-nil, add-one, suc, arith, ap, sym, refl}
use Rattle.std.specs.List.{flat_map}
use Rattle.std.proofs.Math.Seq.{drop-cons}
use Rattle.std.proofs.lemmas.List.{drop_all, length-drop}
use Rattle.acpi_findings.specs.declared.problems.Problem.{Problem}
use Rattle.acpi_findings.specs.declared.notes.Note.{Note}
use Rattle.acpins_survey_output.specs.Found.{is_met_first, note_line, problem_line, notes_before, notes_behind, found_text}

-- a list but its first, as a slice has it
rest_is : {A : Type 0} (xs : List A) → take (length xs - 1) (drop 1 xs) ≡ drop 1 xs
rest_is xs = take_all (length xs - 1) (drop 1 xs) (omega (arith, length-drop 1 xs))

-- ---- the notes before a problem

cond_before : (b : Bool) (t : List ℕ) → b ≡ false → cond b [] t ≡ t
cond_before b t e = ap (λ c. cond c [] t) e

cond_behind : (b : Bool) (xs ys : List Note) → b ≡ false → cond b xs ys ≡ ys
cond_behind b xs ys e = ap (λ c. cond c xs ys) e

pub before_more : (p : Problem) (ns : List Note) (n : Note) → 1 ≤ length ns → n ≡ get_or ns 0 n → is_met_first p n ≡ false
    → notes_before p ns ≡ note_line n ++ notes_before p (take (length ns - 1) (drop 1 ns))
before_more p [] n some is e = absurd (omega (arith, some))
before_more p (m ∷ ns) n some is e =
    cond_before (is_met_first p m) (note_line m ++ notes_before p ns) (ap (λ x. is_met_first p x) (sym is) ∙ e)
    ∙ ap (λ x. note_line x ++ notes_before p ns) (sym is)
    ∙ ap (λ xs. note_line n ++ notes_before p xs) (sym (rest_is (m ∷ ns)))

pub behind_more : (p : Problem) (ns : List Note) (n : Note) → 1 ≤ length ns → n ≡ get_or ns 0 n → is_met_first p n ≡ false
    → notes_behind p ns ≡ notes_behind p (take (length ns - 1) (drop 1 ns))
behind_more p [] n some is e = absurd (omega (arith, some))
behind_more p (m ∷ ns) n some is e =
    cond_behind (is_met_first p m) (m ∷ ns) (notes_behind p ns) (ap (λ x. is_met_first p x) (sym is) ∙ e)
    ∙ ap (λ xs. notes_behind p xs) (sym (rest_is (m ∷ ns)))

-- at the first that the problem is met before
pub before_none : (p : Problem) (ns : List Note) (n : Note) → 1 ≤ length ns → n ≡ get_or ns 0 n → is_met_first p n ≡ true → notes_before p ns ≡ []
before_none p [] n some is e = refl
before_none p (m ∷ ns) n some is e = ap (λ c. cond c [] (note_line m ++ notes_before p ns)) (ap (λ x. is_met_first p x) (sym is) ∙ e)

pub behind_all : (p : Problem) (ns : List Note) (n : Note) → 1 ≤ length ns → n ≡ get_or ns 0 n → is_met_first p n ≡ true → notes_behind p ns ≡ ns
behind_all p [] n some is e = refl
behind_all p (m ∷ ns) n some is e = ap (λ c. cond c (m ∷ ns) (notes_behind p ns)) (ap (λ x. is_met_first p x) (sym is) ∙ e)

-- a line more
pub note_put : (p : Problem) (ns : List Note) (n : Note) (before mid new whole : List ℕ) → 1 ≤ length ns → n ≡ get_or ns 0 n → is_met_first p n ≡ false
    → mid ++ notes_before p ns ≡ whole → new ≡ mid ++ note_line n → new ++ notes_before p (take (length ns - 1) (drop 1 ns)) ≡ whole
note_put p ns n before mid new whole some is e so put =
    ap (λ t. t ++ notes_before p (take (length ns - 1) (drop 1 ns))) put
    ∙ append_assoc mid (note_line n) (notes_before p (take (length ns - 1) (drop 1 ns)))
    ∙ ap (λ t. mid ++ t) (sym (before_more p ns n some is e)) ∙ so

-- ---- the problems

found_first : (ps : List Problem) (i : ℕ) (p d : Problem) (ns : List Note) → i < length ps → p ≡ get_or ps i d
    → found_text (drop i ps) ns ≡ notes_before p ns ++ problem_line p ++ found_text (drop (i + 1) ps) (notes_behind p ns)
found_first ps i p d ns within is =
    ap (λ xs. found_text xs ns) (drop-cons ps i d within)
    ∙ ap (λ q. notes_before q ns ++ problem_line q ++ found_text (drop (suc i) ps) (notes_behind q ns)) (sym is)
    ∙ ap (λ k. notes_before p ns ++ problem_line p ++ found_text (drop k ps) (notes_behind p ns)) (sym (add-one i))

-- the notes before a problem and its line, behind the lines so far
pub problem_put : (ps : List Problem) (i : ℕ) (p d : Problem) (ns rest : List Note) (mid put new whole : List ℕ) → i < length ps → p ≡ get_or ps i d
    → mid ++ found_text (drop i ps) ns ≡ whole → put ≡ mid ++ notes_before p ns → rest ≡ notes_behind p ns → new ≡ put ++ problem_line p
    → new ++ found_text (drop (i + 1) ps) rest ≡ whole
problem_put ps i p d ns rest mid put new whole within is so first left last =
    ap (λ xs. new ++ found_text (drop (i + 1) ps) xs) left
    ∙ ap (λ t. t ++ found_text (drop (i + 1) ps) (notes_behind p ns)) (last ∙ ap (λ t. t ++ problem_line p) first)
    ∙ ap (λ t. t ++ found_text (drop (i + 1) ps) (notes_behind p ns)) (append_assoc mid (notes_before p ns) (problem_line p))
    ∙ append_assoc mid (notes_before p ns ++ problem_line p) (found_text (drop (i + 1) ps) (notes_behind p ns))
    ∙ ap (λ t. mid ++ t) (sym (found_first ps i p d ns within is))
    ∙ so

-- behind the last problem
pub all_found : (ps : List Problem) (i : ℕ) (ns : List Note) (mid new whole : List ℕ) → length ps ≤ i
    → mid ++ found_text (drop i ps) ns ≡ whole → new ≡ mid ++ flat_map note_line ns → new ≡ whole
all_found ps i ns mid new whole past so last = last ∙ ap (λ xs. mid ++ found_text xs ns) (sym (drop_all i ps past)) ∙ so
