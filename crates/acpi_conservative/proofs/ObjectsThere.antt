-- At which paths there are objects when all tables are declared: where an entry stands.
use Rattle.std.proofs.Common.{◌≡◌, ◌||◌, Bool, true, false, cond, List, [], ◌∷◌, ◌++◌, is_some, Option, Some, None, refl, sym, ap, ap₂, ◌∙◌}
use Rattle.std.specs.List.{AllByRecursion, AllZip, flat_map, list_any}
use Rattle.std.specs.Option.{option_or}
use Rattle.std.specs.Cmp.{eq_by_cmp_equiv}
use Rattle.std.proofs.lemmas.List.Folds.{list_any-append}
use Rattle.std.proofs.Math.Bool.{or-false}
use Rattle.acpi_name.specs.Names.{Segment, NameParts}
use Rattle.acpi_name.specs.steps.PathOrder.{path_cmp_total}
use Rattle.acpi_space.specs.Lookups.{is_same_path, is_defined_in, nothing, singleton, union}
use Rattle.acpi_tree.specs.Objects.{ObjectTree}
use Rattle.acpi_declare.specs.Namespace.{Namespace}
use Rattle.acpi_declare.specs.Sites.{Effect, declares, opens, expects}
use Rattle.acpi_declare.specs.Listing.{Placement, object_by, object_of, objects_of}
use Rattle.acpi_declare.specs.Loads.{objects_after}
use Rattle.acpi_declare.specs.Predefined.{with_objects, predefined}
use Rattle.acpi_conditions.specs.Entries.{Path, Entry, HasNoCondition}
use Rattle.acpi_conditions.specs.Listings as conditions
use Rattle.acpi_survey.specs.Predefined.{first_reading, with_object}
use Rattle.acpi_conservative.specs.Strict.{placed_by, placed, all_placed, predefined_objects}
use Rattle.acpi_conservative.specs.Laws.{IsEntryOf}
use Rattle.acpi_conservative.proofs.AllSeen.{is_there}

-- one of the placements has the path
abbrev pub is_placed : List conditions.Placement → Path → Bool
is_placed ds p = list_any (λ (d : conditions.Placement). is_same_path d.path p) ds

some_one : (b : Bool) (o : ObjectTree) → is_some (cond b (Some o) None) ≡ b
some_one true o = refl
some_one false o = refl

or_assoc : (a b c : Bool) → ((a || b) || c) ≡ (a || (b || c))
or_assoc true b c = refl
or_assoc false b c = refl

either_some : (a b : Option ObjectTree) → is_some (option_or a b) ≡ (is_some a || is_some b)
either_some None b = refl
either_some (Some o) b = refl

one_there : (p q : Path) (o : ObjectTree) → is_defined_in (singleton p o) q ≡ is_same_path p q
one_there p q o = some_one (is_same_path q p) o ∙ (eq_by_cmp_equiv path_cmp_total).symm q p

object_there : (d : Effect) (n : NameParts) (s p q : Path) → is_defined_in (object_by d p) q ≡ is_placed (placed_by d n s p) q
object_there (declares o links code) n s p q = one_there p q o ∙ sym (or-false (is_same_path p q))
object_there opens n s p q = refl
object_there (expects count) n s p q = refl

table_there : (t : List Placement) (q : Path) → is_defined_in (objects_of t) q ≡ is_placed (all_placed t) q
table_there [] q = refl
table_there (e ∷ es) q =
    either_some (object_of e q) (objects_of es q)
    ∙ ap₂ (λ a b. a || b) (object_there e.step.effect e.step.name e.scope e.path q) (table_there es q)
    ∙ sym (list_any-append (λ (d : conditions.Placement). is_same_path d.path q) (placed e) (all_placed es))

tables_there : (objects : Namespace) (ts : List (List Placement)) (q : Path) → is_defined_in (objects_after objects ts) q ≡ (is_defined_in objects q || is_placed (flat_map all_placed ts) q)
tables_there objects [] q = sym (or-false (is_defined_in objects q))
tables_there objects (t ∷ ts) q =
    let more : Bool = is_placed (flat_map all_placed ts) q in
    tables_there (union objects (objects_of t)) ts q
    ∙ ap (λ b. b || more) (either_some (objects q) (objects_of t q) ∙ ap (λ b. is_defined_in objects q || b) (table_there t q))
    ∙ or_assoc (is_defined_in objects q) (is_placed (all_placed t) q) more
    ∙ ap (λ b. is_defined_in objects q || b) (sym (list_any-append (λ (d : conditions.Placement). is_same_path d.path q) (all_placed t) (flat_map all_placed ts)))

-- ---- the predefined

abbrev is_listed : List (List Segment × ObjectTree) → Path → Bool
is_listed os q = list_any (λ (e : List Segment × ObjectTree). is_same_path e.0 q) os

with_there : (objects : Namespace) (os : List (List Segment × ObjectTree)) (q : Path) → is_defined_in (with_objects objects os) q ≡ (is_defined_in objects q || is_listed os q)
with_there objects [] q = sym (or-false (is_defined_in objects q))
with_there objects (e ∷ os) q =
    with_there (union objects (singleton e.0 e.1)) os q
    ∙ ap (λ b. b || is_listed os q) (either_some (objects q) (singleton e.0 e.1 q) ∙ ap (λ b. is_defined_in objects q || b) (one_there e.0 q e.1))
    ∙ or_assoc (is_defined_in objects q) (is_same_path e.0 q) (is_listed os q)

predefined_there : (q : Path) → is_defined_in predefined q ≡ is_there first_reading.walk.entries q
unfolding first_reading with_object
predefined_there q = with_there nothing predefined_objects q

-- ---- the entries of tables

pub unconditional : (ds : List conditions.Placement) (es : List Entry) → AllZip IsEntryOf ds es → AllByRecursion HasNoCondition es
unconditional [] [] h = tt
unconditional [] (e ∷ es) h = absurd h
unconditional (d ∷ ds) [] h = absurd h
unconditional (d ∷ ds) (e ∷ es) h = (h.0.no_condition, unconditional ds es h.1)

entries_there : (ds : List conditions.Placement) (es : List Entry) (q : Path) → AllZip IsEntryOf ds es → is_placed ds q ≡ is_there es q
entries_there [] [] q h = refl
entries_there [] (e ∷ es) q h = absurd h
entries_there (d ∷ ds) [] q h = absurd h
entries_there (d ∷ ds) (e ∷ es) q h = ap₂ (λ (p : Path) (b : Bool). is_same_path p q || b) (sym h.0.path) (entries_there ds es q h.1)

pub all_there : (ts : List (List Placement)) (es : List Entry) (q : Path) → AllZip IsEntryOf (flat_map all_placed ts) es
    → is_defined_in (objects_after predefined ts) q ≡ is_there (first_reading.walk.entries ++ es) q
all_there ts es q h =
    tables_there predefined ts q
    ∙ ap₂ (λ a b. a || b) (predefined_there q) (entries_there (flat_map all_placed ts) es q h)
    ∙ sym (list_any-append (λ (f : Entry). is_same_path f.path q) first_reading.walk.entries es)
