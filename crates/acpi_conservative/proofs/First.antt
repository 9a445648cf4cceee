-- Before any table.
use Rattle.std.proofs.Common.{◌≡◌, List, [], ◌∷◌, map, None, refl, ℕ, suc}
use Rattle.std.specs.List.{AllZip}
use Rattle.acpi_name.specs.Names.{Segment}
use Rattle.acpi_space.specs.Lookups.{is_same_path, nothing, singleton, union}
use Rattle.acpi_tree.specs.Objects.{ObjectTree}
use Rattle.acpi_declare.specs.Namespace.{Namespace}
use Rattle.acpi_tree.specs.Tree.{ItemTrees}
use Rattle.acpi_declare.specs.Listing as code
use Rattle.acpi_declare.specs.Loads.{AreListings}
use Rattle.acpi_declare.specs.Predefined.{with_objects, predefined}
use Rattle.acpi_survey.specs.Predefined.{first_reading, with_object as with_known_object}
use Rattle.acpi_conditions.specs.Entries as entries
use Rattle.acpi_conditions.specs.Known.{Known}
use Rattle.acpi_conditions.specs.Listings.{Placement, with_object, made_behind, entry_of}
use Rattle.acpi_conditions.specs.Laws.{IsAllOf, IsStrict}
use Rattle.acpi_conditions.specs.Survey.{surveys}
use Rattle.acpi_conditions.specs.Views.{nothing_known, known_with}
use Rattle.acpi_conditions.proofs.Strict.{all_inside}
use Rattle.acpi_conservative.proofs.Items.{strict_load_is_survey}
use Rattle.acpi_conservative.specs.Strict.{nodes_of, all_placed, AreItemListings, AreTablesOf, Agrees, predefined_objects, placement_of, predefined_terms, predefined_known}
use Rattle.acpi_conservative.proofs.Agreeing.{or_alike, one_alike}

agrees_with : (objects : Namespace) (terms : entries.Namespace) → Agrees objects terms → (es : List (List Segment × ObjectTree)) → Agrees (with_objects objects es) (made_behind terms (map placement_of es))
agrees_with objects terms h [] = h
agrees_with objects terms h (e ∷ es) = agrees_with (union objects (singleton e.0 e.1)) (with_object terms e.0 (placement_of e).term)
    (λ q. or_alike (objects q) (singleton e.0 e.1 q) (terms q) (singleton e.0 (placement_of e).term q) (h q) (one_alike (is_same_path q e.0) e.1 (placement_of e).term refl)) es

pub predefined_agrees : Agrees predefined predefined_terms
predefined_agrees = agrees_with nothing nothing (λ p. refl) predefined_objects

-- each is free before it
abbrev AreFree : entries.Namespace → List Placement → Type 0
AreFree terms [] = Unit {0}
AreFree terms (d ∷ ds) = (terms d.path ≡ None) × AreFree (with_object terms d.path d.term) ds

all_with : (terms : entries.Namespace) (k : Known) → IsAllOf terms k → (ds : List Placement) → AreFree terms ds → IsAllOf (made_behind terms ds) (known_with k (map entry_of ds))
all_with terms k all [] free = all
all_with terms k all (d ∷ ds) free = all_with (with_object terms d.path d.term) _ (all_inside terms k all (entry_of d) free.0) ds free.1

pub predefined_is_known : IsAllOf predefined_terms predefined_known
unfolding first_reading with_known_object
predefined_is_known = all_with nothing nothing_known (record {
  is_true = record { certain = λ c m. absurd m; possible = λ l p t e. let f : ⊥ = cc in absurd f };
  not_in_loop = refl;
  made_are_certain = λ p t e. let f : ⊥ = cc in absurd f;
  entries_are_made = λ e m. absurd m;
}) (map placement_of predefined_objects) (refl, (refl, (refl, (refl, (refl, (refl, (refl, (refl, (refl, (refl, tt))))))))))

-- ---- tables

pub items_of : (depth number : ℕ) (objects : Namespace) (bs : List (List ℕ)) (ts : List (List code.Placement)) → AreListings depth number objects bs ts
    → (iss : List ItemTrees) × AreTablesOf depth number bs iss × AreItemListings objects iss ts
items_of depth number objects [] [] l = ([], tt, tt)
items_of depth number objects [] (t ∷ ts) l = absurd l
items_of depth number objects (b ∷ bs) [] l = absurd l
items_of depth number objects (b ∷ bs) (t ∷ ts) l =
    let r = items_of depth (suc number) (union objects (code.objects_of t)) bs ts l.1 in
    (l.0.0 ∷ r.0, (l.0.1, r.1), (l.0.2, r.2))

pub strict_tables_are_survey : (depth : ℕ) (tables : List (List ℕ)) (ts : List (List code.Placement)) → AreListings depth 0 predefined tables ts
    → (iss : List ItemTrees) × AreTablesOf depth 0 tables iss × AllZip IsStrict (map all_placed ts) (surveys predefined_known (map nodes_of iss))
strict_tables_are_survey depth tables ts l =
    let r = items_of depth 0 predefined tables ts l in
    (r.0, r.1, strict_load_is_survey predefined predefined_terms predefined_known predefined_agrees predefined_is_known r.0 ts r.2)
