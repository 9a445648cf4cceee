-- A namespace of objects and one of terms that agree.
use Rattle.std.proofs.Common.{◌≡◌, Bool, true, false, cond, List, is_some, Option, Some, None, refl, sym, ap, ◌∙◌}
use Rattle.std.specs.Option.{option_map, option_or}
use Rattle.acpi_name.specs.Names.{Segment, NameParts}
use Rattle.acpi_space.specs.Lookups.{is_same_path, is_defined_in, singleton, union}
use Rattle.acpi_space.specs.Search.{answer}
use Rattle.acpi_tree.specs.Objects.{ObjectTree, opens_scope}
use Rattle.acpi_declare.specs.Namespace.{Namespace, IsOpen}
use Rattle.acpi_declare.specs.Sites.{Effect, declares, opens, expects}
use Rattle.acpi_declare.specs.Placing.{IsDeclared, IsOpened}
use Rattle.acpi_declare.specs.Listing.{object_by}
use Rattle.acpi_conditions.specs.Nodes.{Term}
use Rattle.acpi_conditions.specs.Entries as entries
use Rattle.acpi_conditions.specs.Entries.{IsScopeIn}
use Rattle.acpi_conditions.specs.Runs.{Makes, Finds}
use Rattle.acpi_conditions.specs.Listings.{made_behind}
use Rattle.acpi_conservative.specs.Strict.{term_of, placed_by, Agrees}

abbrev scope_flag : Term → Bool
scope_flag t = t.is_scope

none_there : (a : Option ObjectTree) (b : Option Term) → option_map opens_scope a ≡ option_map scope_flag b → a ≡ None → b ≡ None
none_there None None e f = refl
none_there None (Some t) e f = cc
none_there (Some o) b e f = cc

open_there : (a : Option ObjectTree) (b : Option Term) (o : ObjectTree) → option_map opens_scope a ≡ option_map scope_flag b → a ≡ Some o → opens_scope o ≡ true
    → (t : Term) × (b ≡ Some t) × (t.is_scope ≡ true)
open_there None b o e f g = let h : ⊥ = cc in absurd h
open_there (Some q) None o e f g = let h : ⊥ = cc in absurd h
open_there (Some q) (Some t) o e f g =
    let same : q ≡ o = cc in
    let flag : opens_scope q ≡ t.is_scope = cc in
    (t, refl, sym flag ∙ ap opens_scope same ∙ g)

defined_alike : (a : Option ObjectTree) (b : Option Term) → option_map opens_scope a ≡ option_map scope_flag b → is_some a ≡ is_some b
defined_alike None None e = refl
defined_alike None (Some t) e = cc
defined_alike (Some o) None e = cc
defined_alike (Some o) (Some t) e = refl

pub or_alike : (a c : Option ObjectTree) (b d : Option Term) → option_map opens_scope a ≡ option_map scope_flag b → option_map opens_scope c ≡ option_map scope_flag d
    → option_map opens_scope (option_or a c) ≡ option_map scope_flag (option_or b d)
or_alike None c None d e f = f
or_alike None c (Some t) d e f = cc
or_alike (Some o) c None d e f = cc
or_alike (Some o) c (Some t) d e f = e

none_alike : (a : Option ObjectTree) → option_map opens_scope (option_or a None) ≡ option_map opens_scope a
none_alike None = refl
none_alike (Some o) = refl

pub one_alike : (b : Bool) (o : ObjectTree) (t : Term) → opens_scope o ≡ t.is_scope → option_map opens_scope (cond b (Some o) None) ≡ option_map scope_flag (cond b (Some t) None)
one_alike true o t e = ap Some e
one_alike false o t e = refl

module _ (objects : Namespace) (terms : entries.Namespace) (h : Agrees objects terms) where
  pub agrees_open : (p : List Segment) → IsOpen objects p → IsScopeIn terms p
  agrees_open p s = open_there (objects p) (terms p) s.0 (h p) s.1 s.2

  pub agrees_free : (p : List Segment) → objects p ≡ None → terms p ≡ None
  agrees_free p e = none_there (objects p) (terms p) (h p) e

  agrees_defined : is_defined_in objects ≡ is_defined_in terms
  agrees_defined = λ i p. defined_alike (objects p) (terms p) (h p) i

  pub agrees_answer : (s : List Segment) (n : NameParts) → answer (is_defined_in objects) s n ≡ answer (is_defined_in terms) s n
  agrees_answer s n = ap (λ (d : List Segment → Bool). answer d s n) agrees_defined

  -- a term declares the path where its object is declared there
  pub agrees_makes : (s : List Segment) (n : NameParts) (is_scope : Bool) (p : List Segment) → IsDeclared objects s n p → Makes terms s (term_of n is_scope) p
  agrees_makes s n is_scope p d = record { has_segments = d.has_segments; placed = d.placed; parent = agrees_open _ d.parent; free = agrees_free p d.free; needs = tt }

  pub agrees_finds : (s : List Segment) (n : NameParts) (p : List Segment) → IsOpened objects s n p → Finds terms s n p
  agrees_finds s n p d = (sym (agrees_answer s n) ∙ d.found, agrees_open p d.open_there)

  -- behind it they agree again
  pub agrees_behind : (d : Effect) (n : NameParts) (s p : List Segment) → Agrees (union objects (object_by d p)) (made_behind terms (placed_by d n s p))
  agrees_behind (declares o links code) n s p q =
      or_alike (objects q) (singleton p o q) (terms q) (singleton p (term_of n (opens_scope o)) q) (h q) (one_alike (is_same_path q p) o (term_of n (opens_scope o)) refl)
  agrees_behind opens n s p q = none_alike (objects q) ∙ h q
  agrees_behind (expects count) n s p q = none_alike (objects q) ∙ h q
