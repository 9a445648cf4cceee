-- As many values follow a name in a body as in the strict load.
use Rattle.std.proofs.Common.{◌≡◌, ◌||◌, ◌&&◌, ◌+◌, ◌<◌, ℕ, suc, Bool, true, false, true≢false, cond, not, List, [], ◌∷◌, ◌++◌, append-nil, drop, length, Option, Some, None, refl, sym, ap, subst, ◌∙◌, arith}
use Rattle.std.specs.Prelude.{option_to_list, slice_index_or, nat_eq}
use Rattle.std.specs.List.{AllByRecursion, AllZip, list_all}
use Rattle.std.specs.FinMap as finite
use Rattle.std.proofs.lemmas.Bool.{and_parts, eqb-true, eq-eqb, or_right}
use Rattle.std.proofs.lemmas.List.{drop_more, length-drop}
use Rattle.std.proofs.Math.Bool.{and-true}
use Rattle.acpi_name.specs.Names.{NameParts}
use Rattle.acpi_space.specs.Lookups.{is_same_path, is_defined_in}
use Rattle.acpi_space.specs.Search.{answer, tries}
use Rattle.acpi_space.specs.Spaces.{PathMap, is_defined}
use Rattle.acpi_declare.specs.Namespace.{Namespace}
use Rattle.acpi_body.specs.Arguments.{Locals, defined_with, args_in, args_there, args_at, expected_at, expected_place, body_grammar}
use Rattle.acpi_conditions.specs.Entries.{Path, Turn, Entry, HasNoCondition}
use Rattle.acpi_conditions.specs.Known.{Known, candidates}
use Rattle.acpi_conditions.specs.Links.{are_exclusive}
use Rattle.acpi_conditions.specs.Met.{may_be_met, numbers_beyond}
use Rattle.acpi_conditions.specs.Views.{seen_by}
use Rattle.acpi_survey.specs.Bodies.{known_behind, counts_behind, entry_count, entry_grammar}
use Rattle.acpi_survey.specs.Counts.{is_count, agreed, counts_numbered, count_of}
use Rattle.acpi_survey.proofs.LocalPaths.{certain_with_locals}
use Rattle.acpi_survey.proofs.SureCounts.{found_passes}
use Rattle.acpi_conditions.proofs.Basics.{same_path}
use Rattle.acpi_values.specs.Grammars.{with_loads}
use Rattle.acpi_conservative.specs.Laws.{loading}
use Rattle.acpi_conservative.proofs.AllSeen.{is_there, seen_certain, seen_possible, one_candidate}
use Rattle.acpi_conservative.proofs.StrictLinks.{IsAllThere}

-- the count of an entry is what the object at its path takes
abbrev pub IsCounted : Namespace → Entry → Option ℕ → Type 0
IsCounted objects f c = c ≡ Some (args_in (objects f.path))

-- ---- counts that agree

same_count : (m : ℕ) (cs : List (Option ℕ)) (n : ℕ) → list_all (is_count m) (Some n ∷ cs) ≡ true → agreed (Some n ∷ cs) ≡ Some m
same_count m cs n h =
    let both = and_parts (nat_eq m n) (list_all (is_count m) cs) h in
    let same : m ≡ n = eqb-true m n both.0 in
    subst (λ k. agreed (Some k ∷ cs) ≡ Some m) same (ap (λ b. cond b (Some m) None) both.1)

agreed_on : (m : ℕ) (cs : List (Option ℕ)) → list_all (is_count m) cs ≡ true → (cs ≡ [] → ⊥) → agreed cs ≡ Some m
agreed_on m [] h some = absurd (some refl)
agreed_on m (None ∷ cs) h some = absurd (true≢false (sym h))
agreed_on m (Some n ∷ cs) h some = same_count m cs n h

-- ---- the counts of what is at a path

module _ (m : ℕ) (all : List (Option ℕ)) where
  abbrev HasCount : ℕ → Type 0
  HasCount i = slice_index_or all i None ≡ Some m

  all_count : (ns : List ℕ) → AllByRecursion HasCount ns → list_all (is_count m) (counts_numbered all ns) ≡ true
  all_count [] h = refl
  all_count (n ∷ ns) h =
      ap (λ c. is_count m c && list_all (is_count m) (counts_numbered all ns)) h.0
      ∙ ap (λ b. b && list_all (is_count m) (counts_numbered all ns)) (eq-eqb m m refl)
      ∙ all_count ns h.1

  some_counts : (ns : List ℕ) → (ns ≡ [] → ⊥) → counts_numbered all ns ≡ [] → ⊥
  some_counts [] some e = some refl
  some_counts (n ∷ ns) some e = cc

  numbers_agree : (ns : List ℕ) → AllByRecursion HasCount ns → (ns ≡ [] → ⊥) → agreed (counts_numbered all ns) ≡ Some m
  numbers_agree ns h some = agreed_on m (counts_numbered all ns) (all_count ns h) (some_counts ns some)

-- control from anywhere may have met each entry
met_by_all : (w : List Turn) (f : Entry) → HasNoCondition f → may_be_met w f ≡ true
met_by_all w f h = ap (λ (v : List Turn). not (are_exclusive v w)) h.0

-- the numbers of the entries at a path
numbers_next : (w : List Turn) (p : Path) (n : ℕ) (f : Entry) (fs : List Entry) → HasNoCondition f
    → numbers_beyond w p n (f ∷ fs) ≡ cond (is_same_path f.path p) (n ∷ numbers_beyond w p (suc n) fs) (numbers_beyond w p (suc n) fs)
numbers_next w p n f fs h =
    ap (λ b. cond (is_same_path f.path p && b) (n ∷ numbers_beyond w p (suc n) fs) (numbers_beyond w p (suc n) fs)) (met_by_all w f h)
    ∙ ap (λ b. cond b (n ∷ numbers_beyond w p (suc n) fs) (numbers_beyond w p (suc n) fs)) (and-true (is_same_path f.path p))

some_numbers : (w : List Turn) (p : Path) (n : ℕ) (fs : List Entry) → AllByRecursion HasNoCondition fs → is_there fs p ≡ true → numbers_beyond w p n fs ≡ [] → ⊥
some_numbers w p n [] h there e = true≢false (sym there)
some_numbers w p n (f ∷ fs) h there e = by (is_same_path f.path p) refl (some_numbers w p (suc n) fs h.1)
  where
    by : (b : Bool) → is_same_path f.path p ≡ b → (is_there fs p ≡ true → numbers_beyond w p (suc n) fs ≡ [] → ⊥) → ⊥
    by true is rest = let none : n ∷ numbers_beyond w p (suc n) fs ≡ [] = sym (numbers_next w p n f fs h.0 ∙ ap (λ b. cond b (n ∷ numbers_beyond w p (suc n) fs) (numbers_beyond w p (suc n) fs)) is) ∙ e in cc
    by false is rest =
        rest (sym (ap (λ b. b || is_there fs p) is) ∙ there)
        (sym (numbers_next w p n f fs h.0 ∙ ap (λ b. cond b (n ∷ numbers_beyond w p (suc n) fs) (numbers_beyond w p (suc n) fs)) is) ∙ e)

before_end : (all : List (Option ℕ)) (n : ℕ) (c : Option ℕ) (cs : List (Option ℕ)) → drop n all ≡ c ∷ cs → n < length all
before_end all n c cs is = let some = ap length is in let long = length-drop n all in omega arith

first_of : (all : List (Option ℕ)) (n : ℕ) (c : Option ℕ) (cs : List (Option ℕ)) → drop n all ≡ c ∷ cs → slice_index_or all n None ≡ c
first_of all n c cs is =
    let here : slice_index_or all n None ∷ drop (n + 1) all ≡ c ∷ cs = sym (drop_more all n None (before_end all n c cs is)) ∙ is in cc

rest_of : (all : List (Option ℕ)) (n : ℕ) (c : Option ℕ) (cs : List (Option ℕ)) → drop n all ≡ c ∷ cs → drop (suc n) all ≡ cs
rest_of all n c cs is =
    let on : suc n ≡ n + 1 = omega arith in
    let here : slice_index_or all n None ∷ drop (n + 1) all ≡ c ∷ cs = sym (drop_more all n None (before_end all n c cs is)) ∙ is in
    ap (λ k. drop k all) on ∙ (let rest : drop (n + 1) all ≡ cs = cc in rest)

module _ (objects : Namespace) (all : List (Option ℕ)) (w : List Turn) (p : Path) where
  abbrev At : ℕ → Type 0
  At i = HasCount (args_in (objects p)) all i

  counted_here : (n : ℕ) (f : Entry) (c : Option ℕ) (cs : List (Option ℕ)) → drop n all ≡ c ∷ cs → IsCounted objects f c → is_same_path f.path p ≡ true → At n
  counted_here n f c cs is counted same =
      first_of all n c cs is ∙ counted ∙ ap (λ q. Some (args_in (objects q))) (same_path f.path p same)

  all_numbers : (n : ℕ) (fs : List Entry) (cs : List (Option ℕ)) → drop n all ≡ cs → AllByRecursion HasNoCondition fs → AllZip (IsCounted objects) fs cs → AllByRecursion At (numbers_beyond w p n fs)
  all_numbers n [] cs is h z = tt
  all_numbers n (f ∷ fs) [] is h z = absurd z
  all_numbers n (f ∷ fs) (c ∷ cs) is h z = subst (AllByRecursion At) (sym (numbers_next w p n f fs h.0)) (by (is_same_path f.path p) refl (all_numbers (suc n) fs cs (rest_of all n c cs is) h.1 z.1))
    where
      by : (b : Bool) → is_same_path f.path p ≡ b → AllByRecursion At (numbers_beyond w p (suc n) fs) → AllByRecursion At (cond b (n ∷ numbers_beyond w p (suc n) fs) (numbers_beyond w p (suc n) fs))
      by true same rest = (counted_here n f c cs is z.0 same, rest)
      by false other rest = rest

  counts_agree : (fs : List Entry) → AllByRecursion HasNoCondition fs → AllZip (IsCounted objects) fs all → is_there fs p ≡ true
      → agreed (counts_numbered all (numbers_beyond w p 0 fs)) ≡ Some (args_in (objects p))
  counts_agree fs h z there = numbers_agree (args_in (objects p)) all (numbers_beyond w p 0 fs) (all_numbers 0 fs all refl h z) (some_numbers w p 0 fs h there)

-- ---- a name in a body

module _ (objects : Namespace) (es : List Entry) (counts : List (Option ℕ)) (all : IsAllThere objects es) (counted : AllZip (IsCounted objects) es counts) (e : Entry) (expected : PathMap ℕ) (locals : Locals) where
  abbrev seen : Known
  seen = seen_by (record { entries = es; entry = e })

  abbrev at_path : Path → List (Option ℕ)
  at_path p = counts_numbered counts (numbers_beyond e.way p 0 es)

  body_candidates : (n : NameParts) → candidates (known_behind locals seen) e.path n ≡ option_to_list (answer (defined_with objects locals) e.path n)
  body_candidates n =
      one_candidate (known_behind locals seen) (defined_with objects locals)
      (λ p. certain_with_locals locals seen p ∙ ap (λ b. is_defined locals p || b) (seen_certain es e all.no_condition p ∙ sym (all.there p)))
      (λ p y. or_right (is_defined locals p) (is_defined_in objects p) (all.there p ∙ sym (seen_possible es e all.no_condition p) ∙ y)) (tries e.path n)

  count_there : (p : Path) → defined_with objects locals p ≡ true → agreed (counts_behind locals at_path p ++ []) ≡ Some (args_there objects locals p)
  count_there p found = ap agreed (append-nil (counts_behind locals at_path p)) ∙ by (is_defined locals p) refl
    where
      by : (b : Bool) → is_defined locals p ≡ b → agreed (cond (is_defined locals p) (Some 0 ∷ []) (at_path p)) ≡ Some (cond (is_defined locals p) 0 (args_in (objects p)))
      by true is = ap (λ b. agreed (cond b (Some 0 ∷ []) (at_path p))) is ∙ sym (ap (λ b. Some (cond b 0 (args_in (objects p)))) is)
      by false is =
          ap (λ b. agreed (cond b (Some 0 ∷ []) (at_path p))) is
          ∙ counts_agree objects counts e.way p es all.no_condition counted (sym (all.there p) ∙ sym (ap (λ b. b || is_defined_in objects p) is) ∙ found)
          ∙ sym (ap (λ b. Some (cond b 0 (args_in (objects p)))) is)

  name_count : (n : NameParts) → entry_count es counts expected e locals n ≡ (body_grammar objects (finite.get expected) e.path locals).args n
  name_count n =
      ap (count_of (finite.get expected) e.path (counts_behind locals at_path) n) (body_candidates n)
      ∙ by (answer (defined_with objects locals) e.path n) (λ p is. found_passes (defined_with objects locals) (tries e.path n) p is)
    where
      by : (o : Option Path) → ((p : Path) → o ≡ Some p → defined_with objects locals p ≡ true)
          → count_of (finite.get expected) e.path (counts_behind locals at_path) n (option_to_list o)
          ≡ Some (args_at objects locals (expected_at (finite.get expected) (expected_place (finite.get expected) e.path n)) o)
      by None passes = refl
      by (Some p) passes = count_there p (passes p refl)

pub counts_alike : (objects : Namespace) (es : List Entry) (counts : List (Option ℕ)) → IsAllThere objects es → AllZip (IsCounted objects) es counts
    → (e : Entry) (expected : PathMap ℕ) → entry_grammar es counts expected e ≡ loading (body_grammar objects (finite.get expected) e.path)
counts_alike objects es counts all counted e expected = λ i locals. with_loads (λ n. name_count objects es counts all counted e expected locals n i)
