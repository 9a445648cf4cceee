-- A term is placed as the cascade of refusals says exactly where the facts hold.
use Rattle.std.proofs.Common.{◌≡◌, ◌≢◌, ℕ, ◌-◌, ◌++◌, take, length, nat_le, nat_eq, arith, Bool, true, false, cond, List, [], ◌∷◌, is_some, Option, Some, None, IsTrue, Ok, Err, refl, sym, ap, ◌∙◌, subst}
use Rattle.std.proofs.lemmas.List.{take_all}
use Rattle.std.specs.Prelude.{find, option_to_list}
use Rattle.acpi_name.specs.Names.{Segment, NameParts, plain_segment, only_segment}
use Rattle.acpi_name.specs.Paths.{place_of, parent_of}
use Rattle.acpi_space.specs.Search.{answer, tries_of}
use Rattle.acpi_tree.specs.Objects.{ObjectTree, opens_scope}
use Rattle.acpi_pass.specs.declared.refusal.Refusal.TheVariants.{NotAScope, Taken}
use Rattle.acpi_space.specs.Lookups.{is_defined_in}
use Rattle.acpi_pass.specs.Namespace.{Namespace, IsOpen}
use Rattle.acpi_pass.specs.Placing.{IsDeclared, IsOpened, IsPlaced, Placed, if_open, if_free, below, declared_in, declared_path, opened_in, opened_path, placed_path}
use Rattle.acpi_pass.specs.Sites.{Effect, declares, opens, expects, unit_name}

abbrev at : List Segment → Placed
at p = Ok p

same_path : (p q : List Segment) → at p ≡ at q → p ≡ q
same_path p q e = cc

abbrev Place : Type 0
Place = Option (List Segment)

abbrev optional : Bool → Place → Place → Place
optional b x y = cond b x y

abbrev place : List Segment → Place
place p = Some p

abbrev either : Bool → Placed → Placed → Placed
either b x y = cond b x y

pub none_of : (o : Option ObjectTree) → is_some o ≡ false → o ≡ None
none_of None e = refl
none_of (Some x) e = cc

-- ---- open scopes

if_open_ok : (p q : List Segment) (o : Option ObjectTree) (r : Placed) → if_open p o r ≡ Ok q → ((x : ObjectTree) × (o ≡ Some x) × IsTrue (opens_scope x)) × (r ≡ at q)
if_open_ok p q None r e = cc
if_open_ok p q (Some x) r e = by (opens_scope x) refl e
  where
    by : (b : Bool) → opens_scope x ≡ b → either b r (Err (NotAScope, p)) ≡ Ok q → ((y : ObjectTree) × (Some x ≡ Some y) × IsTrue (opens_scope y)) × (r ≡ at q)
    by true eb e = ((x, refl, eb), e)
    by false eb e = cc

if_open_again : (p : List Segment) (objects : Namespace) (r : Placed) → IsOpen objects p → if_open p (objects p) r ≡ r
if_open_again p objects r h = ap (λ o. if_open p o r) h.1 ∙ ap (λ b. cond b r (Err (NotAScope, p))) h.2

-- ---- declarations

if_free_ok : (objects : Namespace) (p q : List Segment) → if_free objects p ≡ Ok q → (p ≡ q) × (objects p ≡ None)
if_free_ok objects p q e = by (is_defined_in objects p) refl e
  where
    by : (b : Bool) → is_defined_in objects p ≡ b → either b (Err (Taken, p)) (Ok p) ≡ Ok q → (p ≡ q) × (objects p ≡ None)
    by true eb e = cc
    by false eb e = (same_path p q e, none_of (objects p) eb)

below_ok : (objects : Namespace) (p q : List Segment) (o : Option ObjectTree) → below objects p o ≡ Ok q → ((x : ObjectTree) × (o ≡ Some x) × IsTrue (opens_scope x)) × (p ≡ q)
    × (objects p ≡ None)
below_ok objects p q None e = cc
below_ok objects p q (Some x) e =
    let f = if_open_ok (parent_of p) q (Some x) (if_free objects p) e in
    let h = if_free_ok objects p q f.1 in
    (f.0, h.0, h.1)

-- a field unit stands in the scope of its list
pub unit_is : (objects : Namespace) (s : List Segment) (g : Segment) (p : List Segment) → declared_path objects s (unit_name g) ≡ Ok p → s ++ g ∷ [] ≡ p
unit_is objects s g p e =
    let within : nat_le 0 (length s) ≡ true = grind arith in
    let here : place_of s (unit_name g) ≡ place (s ++ g ∷ []) =
    ap (λ b. optional b (place (take (length s - 0) s ++ g ∷ [])) None) within ∙ ap (λ (l : List Segment). place (l ++ g ∷ [])) (take_all (length s - 0) s (omega arith)) in
    (below_ok objects (s ++ g ∷ []) p (objects (parent_of (s ++ g ∷ []))) (sym (ap (declared_in objects s (g ∷ [])) here) ∙ e)).1

declared_ok : (objects : Namespace) (s : List Segment) (n : NameParts) (p : List Segment) → declared_path objects s n ≡ Ok p → IsDeclared objects s n p
declared_ok objects s n p e = by n.segments refl (place_of s n) refl e
  where
    by : (gs : List Segment) → n.segments ≡ gs → (o : Place) → place_of s n ≡ o → declared_in objects s gs o ≡ Ok p → IsDeclared objects s n p
    by [] eg o eo e = cc
    by (g ∷ gs) eg None eo e = cc
    by (g ∷ gs) eg (Some q) eo e =
        let f = below_ok objects q p (objects (parent_of q)) e in
        record {
          has_segments = λ z. cc;
          placed = eo ∙ ap place f.1;
          parent = subst (λ r. IsOpen objects (parent_of r)) f.1 f.0;
          free = subst (λ r. objects r ≡ None) f.1 f.2;
        }

pub declared_again : (objects : Namespace) (s : List Segment) (n : NameParts) (p : List Segment) → IsDeclared objects s n p → declared_path objects s n ≡ Ok p
declared_again objects s n p h = ap (declared_in objects s n.segments) h.placed ∙ by n.segments h.has_segments
  where
    free : (o : Option ObjectTree) → o ≡ None → cond (is_some o) (Err (Taken, p)) (at p) ≡ Ok p
    free None e = refl
    free (Some x) e = cc

    with_parent : (o : Option ObjectTree) → objects (parent_of p) ≡ o → below objects p o ≡ Ok p
    with_parent None e = let never : Some h.parent.0 ≡ None = sym h.parent.1 ∙ e in cc
    with_parent (Some x) e = sym (ap (λ o. if_open (parent_of p) o (if_free objects p)) e) ∙ if_open_again (parent_of p) objects (if_free objects p) h.parent ∙ free (objects p) h.free

    by : (gs : List Segment) → gs ≢ [] → declared_in objects s gs (Some p) ≡ Ok p
    by [] some = absurd (some refl)
    by (g ∷ gs) some = with_parent (objects (parent_of p)) refl

-- ---- Scope terms

opened_ok : (objects : Namespace) (s : List Segment) (n : NameParts) (t : List Segment) → opened_path objects s n ≡ Ok t → IsOpened objects s n t
opened_ok objects s n t e = by (place_of s n) (answer (is_defined_in objects) s n) refl e
  where
    by : (o a : Place) → answer (is_defined_in objects) s n ≡ a → opened_in objects s o a ≡ Ok t → IsOpened objects s n t
    by None a ea e = cc
    by (Some q) None ea e = cc
    by (Some q) (Some r) ea e =
        let f = if_open_ok r t (objects r) (Ok r) e in
        let same = same_path r t f.1 in
        record { found = ea ∙ ap place same; open_there = subst (IsOpen objects) same f.0 }

-- a plain name has a place, and so has any name that is found
placed_parts : (s : List Segment) (r : Bool) (k : ℕ) (gs : List Segment) (g : Segment) → cond r None (cond (nat_eq k 0) (only_segment gs) None) ≡ Some g
    → optional r (Some gs) (optional (nat_le k (length s)) (Some (take (length s - k) s ++ gs)) None) ≢ None
placed_parts s true k gs g e = cc
placed_parts s false k gs g e = by (nat_eq k 0) refl
  where
    found : (b : Bool) → b ≡ true → optional b (Some (take (length s - k) s ++ gs)) None ≢ None
    found true h = λ none. cc
    found false h = cc

    by : (b : Bool) → nat_eq k 0 ≡ b → optional (nat_le k (length s)) (Some (take (length s - k) s ++ gs)) None ≢ None
    by true eb = found (nat_le k (length s)) (grind arith)
    by false eb = let never : None ≡ Some g = sym (ap (λ b. cond b (only_segment gs) None) eb) ∙ e in cc

found_placed : (defined : List Segment → Bool) (s : List Segment) (n : NameParts) (t : List Segment) → answer defined s n ≡ Some t → place_of s n ≢ None
found_placed defined s n t e = by (plain_segment n) refl
  where
    by : (o : Option Segment) → plain_segment n ≡ o → place_of s n ≢ None
    by (Some g) eo = placed_parts s n.rooted n.parents n.segments g eo
    by None eo = λ none. let never : find defined [] ≡ Some t = sym (ap (λ o. find defined (tries_of s n o)) eo ∙ ap (λ p. find defined (option_to_list p)) none) ∙ e in cc

pub opened_again : (objects : Namespace) (s : List Segment) (n : NameParts) (t : List Segment) → IsOpened objects s n t → opened_path objects s n ≡ Ok t
opened_again objects s n t h = ap (opened_in objects s (place_of s n)) h.found ∙ by (place_of s n) (found_placed (is_defined_in objects) s n t h.found)
  where
    by : (o : Place) → o ≢ None → opened_in objects s o (Some t) ≡ Ok t
    by None some = absurd (some refl)
    by (Some q) some = if_open_again t objects (Ok t) h.open_there

-- ---- any term

pub placed_ok : (d : Effect) (objects : Namespace) (s : List Segment) (n : NameParts) (p : List Segment) → placed_path d objects s n ≡ Ok p → IsPlaced d objects s n p
placed_ok (declares o links code) objects s n p e = declared_ok objects s n p e
placed_ok opens objects s n p e = opened_ok objects s n p e
placed_ok (expects k) objects s n p e = sym (same_path [] p e)

pub placed_again : (d : Effect) (objects : Namespace) (s : List Segment) (n : NameParts) (p : List Segment) → IsPlaced d objects s n p → placed_path d objects s n ≡ Ok p
placed_again (declares o links code) objects s n p h = declared_again objects s n p h
placed_again opens objects s n p h = opened_again objects s n p h
placed_again (expects k) objects s n p h = ap at (sym h)

-- a term is placed at one path at most
pub placed_once : (d : Effect) (objects : Namespace) (s : List Segment) (n : NameParts) (p q : List Segment) → IsPlaced d objects s n p → IsPlaced d objects s n q → p ≡ q
placed_once d objects s n p q h k = same_path p q (sym (placed_again d objects s n p h) ∙ placed_again d objects s n q k)
