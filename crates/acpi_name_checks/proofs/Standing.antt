-- The steps of a walk over the lines of a body.
use Rattle.std.specs.Prelude.{nat_eq, ◌||◌}
use Rattle.std.specs.Global.{Vec}
use Rattle.std.proofs.Common.{◌≡◌, ◌∙◌, ◌<◌, ◌≤◌, ◌+◌, ◌-◌, ◌++◌, ℕ, zero, suc, Bool, true, false, cond, Some, List, [], ◌∷◌, length, drop, map, take, refl, sym, ap, arith, append-nil, length-append}
use Rattle.std.specs.List.{slice_get, list_any}
use Rattle.std.specs.Borrow.{Bor}
use Rattle.std.proofs.lemmas.List.{take_more, drop_more, take_all}
use Rattle.std.proofs.lemmas.Option.{slice_get_within, slice_get_past, get_or_from_slice_get}
use Rattle.std.proofs.lemmas.Grind.{common_steps}
use Rattle.acpi_name.specs.Names.{NameParts}
use Rattle.acpi_space.specs.Search.{tries}
use Rattle.acpi_tree.specs.TermView.{term_view}
use Rattle.acpi_tree.specs.declared.term.Term.{Term}
use Rattle.acpi_conditions.proofs.WayTests.{any_map}
use Rattle.acpi_conditions.specs.Entries.{Path}
use Rattle.acpi_uses.specs.Guards.{GuardedTree}
use Rattle.acpi_uses.specs.declared.guards.GuardStep.{GuardStep}
use Rattle.acpi_uses.specs.declared.guards.GuardStep.TheVariants.{Show, Keep, Statement}
use Rattle.acpi_uses.specs.GuardSteps.{guarded_by}
use Rattle.acpi_uses.specs.steps.GuardWalks.{found_by, names_after, shown_by}
use Rattle.acpi_uses.proofs.Walks.{guarded_by_one_more, names_after_one_more}
use Rattle.acpi_name_checks.specs.Guarding.{is_guarded, is_one_shown, is_plain, shown_at, shown_in}
use Rattle.acpi_name_checks.specs.steps.Standing.{Stands}

guarded_by_append : (names : List NameParts) (ss ts : List GuardStep)
    → guarded_by names (ss ++ ts) ≡ guarded_by names ss ++ guarded_by (names_after names ss) ts
guarded_by_append names [] ts = refl
guarded_by_append names (Show n ∷ ss) ts = guarded_by_append (names ++ n.now ∷ []) ss ts
guarded_by_append names (Keep count ∷ ss) ts = guarded_by_append (take count names) ss ts
guarded_by_append names (Statement t ∷ ss) ts = ap (λ l. (names, term_view t.now) ∷ l) (guarded_by_append names ss ts)

pub lines_are_few : (names : List NameParts) (ss : List GuardStep) → length (guarded_by names ss) ≤ length ss
lines_are_few names [] = omega arith
lines_are_few names (Show n ∷ ss) = let h = lines_are_few (names ++ n.now ∷ []) ss in omega (arith, h)
lines_are_few names (Keep count ∷ ss) = let h = lines_are_few (take count names) ss in omega (arith, h)
lines_are_few names (Statement t ∷ ss) = let h = lines_are_few names ss in omega (arith, h)

-- ---- one step more

taken : (ss : List GuardStep) (i : ℕ) (s : GuardStep) → slice_get ss i ≡ Some s → take (i + 1) ss ≡ take i ss ++ s ∷ []
taken ss i s e = take_more ss i s (slice_get_within ss i s e) ∙ ap (λ x. take i ss ++ x ∷ []) (get_or_from_slice_get ss i s s e)

lines_more : (ss : List GuardStep) (i : ℕ) (s : GuardStep) → slice_get ss i ≡ Some s
    → found_by (take (i + 1) ss) ≡ found_by (take i ss) ++ guarded_by (shown_by (take i ss)) (s ∷ [])
lines_more ss i s e = ap found_by (taken ss i s e) ∙ guarded_by_one_more [] (take i ss) s

shown_more : (ss : List GuardStep) (i : ℕ) (s : GuardStep) → slice_get ss i ≡ Some s
    → shown_by (take (i + 1) ss) ≡ names_after (shown_by (take i ss)) (s ∷ [])
shown_more ss i s e = ap shown_by (taken ss i s e) ∙ names_after_one_more [] (take i ss) s

map_append : {A B : Type 0} (f : A → B) (xs ys : List A) → map f (xs ++ ys) ≡ map f xs ++ map f ys
map_append f [] ys = refl
map_append f (x ∷ xs) ys = ap (λ l. f x ∷ l) (map_append f xs ys)

map_take : {A B : Type 0} (f : A → B) (n : ℕ) (xs : List A) → map f (take n xs) ≡ take n (map f xs)
map_take f zero xs = refl
map_take f (suc n) [] = refl
map_take f (suc n) (x ∷ xs) = ap (λ l. f x ∷ l) (map_take f n xs)

take_drop_all : {A : Type 0} (n : ℕ) (xs : List A) → take n xs ++ drop n xs ≡ xs
take_drop_all zero xs = refl
take_drop_all (suc n) [] = refl
take_drop_all (suc n) (x ∷ xs) = ap (λ l. x ∷ l) (take_drop_all n xs)

behind_seam : {A : Type 0} (xs ys : List A) (y : A) → slice_get (xs ++ y ∷ ys) (length xs) ≡ Some y
behind_seam [] ys y = refl
behind_seam (x ∷ xs) ys y = behind_seam xs ys y

shown_from : (gs : List GuardedTree) (line : ℕ) (g : GuardedTree) → slice_get gs line ≡ Some g → shown_at gs (line + 1) ≡ g.0
shown_from gs line g e = grind (arith, common_steps, e)

at_seam : (line : ℕ) (gs before : List GuardedTree) (g : GuardedTree) (behind : List GuardedTree) → line ≡ length before → gs ≡ before ++ g ∷ behind → shown_at gs (line + 1) ≡ g.0
at_seam line gs before g behind e is = shown_from gs line g (ap (slice_get gs) e ∙ ap (λ l. slice_get l (length before)) is ∙ behind_seam before behind g)

any_tried : (plain : Bool) (tried : List Path) (scope : Path) (shown : List (Vec Path)) (names : List NameParts) → map (λ (v : Vec Path). v.items) shown ≡ map (tries scope) names
    → list_any (λ (v : Vec Path). is_one_shown plain tried v.items) shown ≡ list_any (λ m. is_one_shown plain tried (tries scope m)) names
any_tried plain tried scope shown names e = sym (any_map (λ (v : Vec Path). v.items) (is_one_shown plain tried) shown) ∙ ap (list_any (is_one_shown plain tried)) e ∙ any_map (tries scope) (is_one_shown plain tried) names

abbrev the_none : List NameParts
the_none = []

none_past : (gs : List GuardedTree) (asked : ℕ) → length gs < asked → shown_at gs asked ≡ []
none_past gs asked lt = ap (λ o. cond (nat_eq asked 0) [] (shown_in o)) (slice_get_past gs (asked - 1) (omega (arith, lt))) ∙ by (nat_eq asked 0)
  where
    by : (b : Bool) → cond b (the_none) (the_none) ≡ the_none
    by true = refl
    by false = refl

module _ (scope : Path) (ss : List GuardStep) (next line : ℕ) (at : Bool) (shown : List (Vec Path)) (h : Stands scope ss next line at shown) where
  pub shows_one_more : (n : Bor NameParts) (v : Vec Path) (more : List (Vec Path)) → slice_get ss next ≡ Some (Show n) → v.items ≡ tries scope n.now → more ≡ shown ++ v ∷ []
      → Stands scope ss (next + 1) line false more
  shows_one_more n v more e is new = record {
    ahead = omega (arith, h.ahead);
    within = let w = slice_get_within ss next (Show n) e in omega (arith, w);
    lines = h.lines ∙ sym (ap length (lines_more ss next (Show n) e ∙ append-nil (found_by (take next ss))));
    tried = ap (map (λ (v : Vec Path). v.items)) new ∙ map_append (λ (v : Vec Path). v.items) shown (v ∷ []) ∙ ap (λ l. l ++ v.items ∷ []) h.tried ∙ ap (λ p. map (tries scope) (shown_by (take next ss)) ++ p ∷ []) is
        ∙ sym (map_append (tries scope) (shown_by (take next ss)) (n.now ∷ [])) ∙ ap (map (tries scope)) (sym (shown_more ss next (Show n) e));
    here = λ f. cc;
  }

  pub keeps_some : (count : ℕ) (more : List (Vec Path)) → slice_get ss next ≡ Some (Keep count) → more ≡ take count shown → Stands scope ss (next + 1) line false more
  keeps_some count more e new = record {
    ahead = omega (arith, h.ahead);
    within = let w = slice_get_within ss next (Keep count) e in omega (arith, w);
    lines = h.lines ∙ sym (ap length (lines_more ss next (Keep count) e ∙ append-nil (found_by (take next ss))));
    tried = ap (map (λ (v : Vec Path). v.items)) new ∙ map_take (λ (v : Vec Path). v.items) count shown ∙ ap (take count) h.tried ∙ sym (map_take (tries scope) count (shown_by (take next ss)))
        ∙ ap (map (tries scope)) (sym (shown_more ss next (Keep count) e));
    here = λ f. cc;
  }

  rest : (t : Bor Term) → slice_get ss next ≡ Some (Statement t) → ss ≡ take next ss ++ Statement t ∷ drop (next + 1) ss
  rest t e = sym (take_drop_all next ss) ∙ ap (λ l. take next ss ++ l) (drop_more ss next (Statement t) (slice_get_within ss next (Statement t) e) ∙ ap (λ x. x ∷ drop (next + 1) ss) (get_or_from_slice_get ss next (Statement t) (Statement t) e))

  lines_in_all : (t : Bor Term) → slice_get ss next ≡ Some (Statement t)
      → found_by ss ≡ found_by (take next ss) ++ (shown_by (take next ss), term_view t.now) ∷ guarded_by (shown_by (take next ss)) (drop (next + 1) ss)
  lines_in_all t e = ap found_by (rest t e) ∙ guarded_by_append [] (take next ss) (Statement t ∷ drop (next + 1) ss)

  shown_there : (t : Bor Term) → slice_get ss next ≡ Some (Statement t) → shown_at (found_by ss) (line + 1) ≡ shown_by (take next ss)
  shown_there t e = at_seam line (found_by ss) (found_by (take next ss)) (shown_by (take next ss), term_view t.now) (guarded_by (shown_by (take next ss)) (drop (next + 1) ss)) h.lines (lines_in_all t e)

  pub comes_to_line : (t : Bor Term) → slice_get ss next ≡ Some (Statement t) → Stands scope ss (next + 1) (line + 1) true shown
  comes_to_line t e = record {
    ahead = omega (arith, h.ahead);
    within = let w = slice_get_within ss next (Statement t) e in omega (arith, w);
    lines = omega (arith, h.lines, ap length (lines_more ss next (Statement t) e), length-append (found_by (take next ss)) ((shown_by (take next ss), term_view t.now) ∷ []));
    tried = h.tried ∙ ap (map (tries scope)) (sym (shown_more ss next (Statement t) e));
    here = λ f. shown_there t e ∙ sym (shown_more ss next (Statement t) e);
  }

  -- what is shown there
  pub is_shown_here : (n : NameParts) (plain : Bool) (tried : List Path) (b : Bool) → b ≡ list_any (λ (v : Vec Path). is_one_shown plain tried v.items) shown
      → plain ≡ is_plain n → tried ≡ tries scope n → b ≡ is_guarded scope (shown_by (take next ss)) n
  is_shown_here n plain tried b is p t = is ∙ any_tried plain tried scope shown (shown_by (take next ss)) h.tried
      ∙ ap (λ q. list_any (λ m. is_one_shown q tried (tries scope m)) (shown_by (take next ss))) p
      ∙ ap (λ q. list_any (λ m. is_one_shown (is_plain n) q (tries scope m)) (shown_by (take next ss))) t

-- behind the end of a body nothing is shown
pub none_behind : (ss : List GuardStep) (scope : Path) (next line : ℕ) (at : Bool) (shown : List (Vec Path)) → Stands scope ss next line at shown → length ss ≤ next → (asked : ℕ) → line < asked → shown_at (found_by ss) asked ≡ []
none_behind ss scope next line at shown h end asked lt =
    none_past (found_by ss) asked (let count : line ≡ length (found_by ss) = h.lines ∙ ap (λ l. length (found_by l)) (take_all next ss end) in omega (arith, count, lt))

-- at the line to which the walk came
pub shown_at_line : (ss : List GuardStep) (scope : Path) (next line : ℕ) (at : Bool) (shown : List (Vec Path)) → Stands scope ss next line at shown → (asked : ℕ) → line ≡ asked → at ≡ true
    → shown_at (found_by ss) asked ≡ shown_by (take next ss)
shown_at_line ss scope next line at shown h asked e is = ap (shown_at (found_by ss)) (sym e) ∙ h.here is
