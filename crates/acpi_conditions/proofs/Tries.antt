-- The candidates of a name, by the tries of its search.
use Rattle.std.proofs.Common.{◌≡◌, ◌≤◌, suc, Bool, true, false, not, cond, ◌||◌, List, [], ◌∷◌, ◌++◌, map, length, is_some, option_to_list, Option, Some, None, true≢false, refl, sym, ap, ◌∙◌, arith, append_assoc, length-append}
use Rattle.std.specs.List.{list_any, last_or}
use Rattle.std.proofs.Math.Bool.{or-false}
use Rattle.acpi_name.specs.Names.{Segment, NameParts, plain_segment}
use Rattle.acpi_name.specs.Paths.{place_of, parent_of}
use Rattle.acpi_name.proofs.Parents.{parent_of-push, parent_of_last}
use Rattle.acpi_space.specs.Search.{beginnings, tries, tries_of}
use Rattle.acpi_space.proofs.Beginnings.{beginnings_push, beginnings_whole}
use Rattle.acpi_space.proofs.Climbing.{no_last}
use Rattle.acpi_conditions.specs.Entries.{Path}
use Rattle.acpi_conditions.specs.Known.{Known, is_certain, is_possible, up_to_certain}
use Rattle.acpi_conditions.specs.steps.Tries.{below, candidate_at}

-- ---- one try

pub tried_certain : (k : Known) (p : Path) → is_certain k p ≡ true → candidate_at k p ≡ p ∷ []
tried_certain k p e = by (is_certain k p) e
  where
    by : (c : Bool) → c ≡ true → cond (c || is_possible k p) (p ∷ []) [] ≡ p ∷ []
    by true e = refl
    by false e = cc

pub tried_possible : (k : Known) (p : Path) → is_possible k p ≡ true → candidate_at k p ≡ p ∷ []
tried_possible k p e = by (is_certain k p) (is_possible k p) e
  where
    by : (c b : Bool) → b ≡ true → cond (c || b) (p ∷ []) [] ≡ p ∷ []
    by true b e = refl
    by false true e = refl
    by false false e = cc

pub tried_in_vain : (k : Known) (p : Path) → is_certain k p ≡ false → is_possible k p ≡ false → candidate_at k p ≡ []
tried_in_vain k p e f = by (is_certain k p) (is_possible k p) e f
  where
    by : (c b : Bool) → c ≡ false → b ≡ false → cond (c || b) (p ∷ []) [] ≡ []
    by true b e f = cc
    by false true e f = cc
    by false false e f = refl

-- the candidates of a path, and of one more before it
one_more : (k : Known) (p : Path) (ps : List Path) → is_certain k p ≡ false → up_to_certain k (p ∷ ps) ≡ candidate_at k p ++ up_to_certain k ps
one_more k p ps e = by (is_certain k p) (is_possible k p) e
  where
    by : (c b : Bool) → c ≡ false → cond c (p ∷ []) (cond b (p ∷ up_to_certain k ps) (up_to_certain k ps)) ≡ cond (c || b) (p ∷ []) [] ++ up_to_certain k ps
    by true b e = cc
    by false true e = refl
    by false false e = refl

last_one : (k : Known) (p : Path) (ps : List Path) → is_certain k p ≡ true → up_to_certain k (p ∷ ps) ≡ candidate_at k p
last_one k p ps e = by (is_certain k p) (is_possible k p) e
  where
    by : (c b : Bool) → c ≡ true → cond c (p ∷ []) (cond b (p ∷ up_to_certain k ps) (up_to_certain k ps)) ≡ cond (c || b) (p ∷ []) []
    by true b e = refl
    by false b e = cc

-- a path alone
pub only_try : (k : Known) (p : Path) → up_to_certain k (p ∷ []) ≡ candidate_at k p
only_try k p = by (is_certain k p) (is_possible k p)
  where
    by : (c b : Bool) → cond c (p ∷ []) (cond b (p ∷ []) []) ≡ cond (c || b) (p ∷ []) []
    by true b = refl
    by false b = refl

pub only_certain : (k : Known) (p : Path) → list_any (is_certain k) (p ∷ []) ≡ is_certain k p
only_certain k p = or-false (is_certain k p)

-- ---- the tries of a name

pub plain_tries : (s : Path) (n : NameParts) (g : Segment) → plain_segment n ≡ Some g → tries s n ≡ below s g
plain_tries s n g e = ap (tries_of s n) e

pub placed_tries : (s : Path) (n : NameParts) (p : Path) → plain_segment n ≡ None → place_of s n ≡ Some p → tries s n ≡ p ∷ []
placed_tries s n p e f = ap (tries_of s n) e ∙ ap option_to_list f

pub no_tries : (s : Path) (n : NameParts) → plain_segment n ≡ None → place_of s n ≡ None → tries s n ≡ []
no_tries s n e f = ap (tries_of s n) e ∙ ap option_to_list f

-- ---- the walk from a scope to the root

below_all : (p : Path) (g : Segment) → (rest : List Path) × (below p g ≡ (p ++ g ∷ []) ∷ rest)
below_all p g = let t : (rest : _) × (beginnings p ≡ p ∷ rest) = beginnings_whole p in (map (λ q. q ++ g ∷ []) t.0, ap (map (λ q. q ++ g ∷ [])) t.1)

below_push : (p : Path) (x g : Segment) → below (p ++ x ∷ []) g ≡ ((p ++ x ∷ []) ++ g ∷ []) ∷ below p g
below_push p x g = ap (map (λ q. q ++ g ∷ [])) (beginnings_push p x)

-- what was found so far, and what the tries from a path on find, is what those from the scope on find
pub record IsOnTheWay (k : Known) (g : Segment) (scope path : Path) (found : List Path) : Type 0 where
  pub candidates : found ++ up_to_certain k (below path g) ≡ up_to_certain k (below scope g)
  pub certain : list_any (is_certain k) (below path g) ≡ list_any (is_certain k) (below scope g)

pub first_try : (k : Known) (g : Segment) (scope path : Path) (found : List Path) → path ≡ scope → found ≡ [] → IsOnTheWay k g scope path found
first_try k g scope path found e f = record {
  candidates = ap (λ l. l ++ up_to_certain k (below path g)) f ∙ ap (λ p. up_to_certain k (below p g)) e;
  certain = ap (λ p. list_any (is_certain k) (below p g)) e;
}

module _ (k : Known) (g : Segment) (scope path pushed popped : Path) (found more : List Path) (b : Bool) (h : IsOnTheWay k g scope path found) (e : pushed ≡ path ++ g ∷ []) (f : popped ≡ parent_of pushed)
    (is : b ≡ is_certain k pushed) (new : more ≡ found ++ candidate_at k pushed) where
  same : popped ≡ path
  same = f ∙ ap parent_of e ∙ parent_of-push path g

  here : is_certain k (path ++ g ∷ []) ≡ b
  here = ap (is_certain k) (sym e) ∙ sym is

  grown : more ≡ found ++ candidate_at k (path ++ g ∷ [])
  grown = new ∙ ap (λ p. found ++ candidate_at k p) e

  -- it ends where a path is certain
  pub ends_certain : b ≡ true → (more ≡ up_to_certain k (below scope g)) × (b ≡ list_any (is_certain k) (below scope g))
  ends_certain t =
      let r : (rest : List Path) × (below path g ≡ (path ++ g ∷ []) ∷ rest) = below_all path g in
      let c : is_certain k (path ++ g ∷ []) ≡ true = here ∙ t in (
        grown ∙ ap (λ l. found ++ l) (sym (last_one k (path ++ g ∷ []) r.0 c)) ∙ ap (λ l. found ++ up_to_certain k l) (sym r.1) ∙ h.candidates,
        t ∙ ap (λ c. c || list_any (is_certain k) r.0) (sym c) ∙ ap (list_any (is_certain k)) (sym r.1) ∙ h.certain,
      )

  -- .. and at the root
  pub ends_at_root : b ≡ false → (o : Option Segment) (none : Bool) → is_some o ≡ not none → none ≡ true → o ≡ last_or None popped
      → (more ≡ up_to_certain k (below scope g)) × (b ≡ list_any (is_certain k) (below scope g))
  ends_at_root t (Some x) none n nt l = absurd (true≢false (n ∙ ap not nt))
  ends_at_root t None none n nt l =
      let nil : path ≡ [] = sym same ∙ no_last popped (sym l) in
      let one : below path g ≡ (path ++ g ∷ []) ∷ [] = ap (λ p. below p g) nil ∙ ap (λ p. (p ++ g ∷ []) ∷ []) (sym nil) in (
        grown ∙ ap (λ l. found ++ l) (sym (only_try k (path ++ g ∷ []))) ∙ ap (λ l. found ++ up_to_certain k l) (sym one) ∙ h.candidates,
        sym here ∙ sym (only_certain k (path ++ g ∷ [])) ∙ ap (list_any (is_certain k)) (sym one) ∙ h.certain,
      )

  -- else it goes on from the parent
  module _ (t : b ≡ false) (o : Option Segment) (none : Bool) (shorter : Path) (n : is_some o ≡ not none) (nf : none ≡ false) (l : o ≡ last_or None popped) (m : shorter ≡ parent_of popped) where
    last_is : (x : Segment) × (path ≡ shorter ++ x ∷ [])
    last_is = by o n l
      where
        by : (o : Option Segment) → is_some o ≡ not none → o ≡ last_or None popped → (x : Segment) × (path ≡ shorter ++ x ∷ [])
        by None n l = absurd (true≢false (sym (n ∙ ap not nf)))
        by (Some x) n l = (x, sym same ∙ parent_of_last popped x (sym l) ∙ ap (λ q. q ++ x ∷ []) (sym m))

    next_tries : below path g ≡ (path ++ g ∷ []) ∷ below shorter g
    next_tries = ap (λ p. below p g) last_is.1 ∙ below_push shorter last_is.0 g ∙ ap (λ p. (p ++ g ∷ []) ∷ below shorter g) (sym last_is.1)

    pub goes_on : IsOnTheWay k g scope shorter more
    goes_on = record {
      candidates = ap (λ q. q ++ up_to_certain k (below shorter g)) grown ∙ append_assoc found (candidate_at k (path ++ g ∷ [])) (up_to_certain k (below shorter g))
          ∙ ap (λ q. found ++ q) (sym (one_more k (path ++ g ∷ []) (below shorter g) (here ∙ t))) ∙ ap (λ q. found ++ up_to_certain k q) (sym next_tries) ∙ h.candidates;
      certain = ap (λ c. c || list_any (is_certain k) (below shorter g)) (sym (here ∙ t)) ∙ ap (list_any (is_certain k)) (sym next_tries) ∙ h.certain;
    }

    pub shrinks : suc (length shorter) ≤ length path
    shrinks = omega (arith, ap length last_is.1, length-append shorter (last_is.0 ∷ []))
