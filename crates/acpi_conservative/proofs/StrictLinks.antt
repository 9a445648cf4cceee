-- The links of an entry are what the strict load finds.
use Rattle.std.proofs.Common.{◌≡◌, ℕ, List, [], ◌∷◌, map, is_some, refl, sym, subst, ◌∙◌}
use Rattle.std.specs.Prelude.{option_to_list}
use Rattle.std.specs.List.{AllByRecursion, AllZip, flat_map}
use Rattle.acpi_name.specs.Names.{NameParts}
use Rattle.acpi_space.specs.Lookups.{is_defined_in}
use Rattle.acpi_space.specs.Search.{answer, tries}
use Rattle.acpi_space.proofs.Elements.{all_append}
use Rattle.acpi_declare.specs.Namespace.{Namespace}
use Rattle.acpi_declare.specs.Listing.{Placement}
use Rattle.acpi_declare.specs.Links.{answers}
use Rattle.acpi_declare.specs.Loads.{AreListings, objects_after}
use Rattle.acpi_declare.specs.Predefined.{predefined}
use Rattle.acpi_outline.specs.Nodes.{NodeTrees}
use Rattle.acpi_conditions.specs.Entries.{Path, Entry, HasNoCondition}
use Rattle.acpi_conditions.specs.Known.{candidates, is_certain_name}
use Rattle.acpi_conditions.specs.Views.{seen_by}
use Rattle.acpi_survey.specs.Reading.{Reading}
use Rattle.acpi_survey.specs.Predefined.{first_reading}
use Rattle.acpi_survey.specs.Survey.{AreRead}
use Rattle.acpi_survey.proofs.SureCounts.{first_unconditional}
use Rattle.acpi_conservative.specs.Strict.{all_placed}
use Rattle.acpi_conservative.specs.Laws.{IsEntryOf, StrictLinks, StrictCertain}
use Rattle.acpi_conservative.proofs.AllSeen.{is_there, seen_certain, seen_possible, one_candidate, one_certain}
use Rattle.acpi_conservative.proofs.ObjectsThere.{unconditional, all_there}
use Rattle.acpi_conservative.proofs.ReadTables.{strict_read_is_survey}

-- No entry has a condition, and objects stand where entries do.
pub record IsAllThere (objects : Namespace) (es : List Entry) : Type 0 where
  pub no_condition : AllByRecursion HasNoCondition es
  pub there : (p : Path) → is_defined_in objects p ≡ is_there es p

pub is_all_there : (depth : ℕ) (tables : List (List ℕ)) (ts : List (List Placement)) → AreListings depth 0 predefined tables ts
    → (nss : List NodeTrees) (last : Reading) → AreRead depth 0 first_reading tables nss last → IsAllThere (objects_after predefined ts) last.walk.entries
is_all_there depth tables ts l nss last r =
    let s = strict_read_is_survey depth tables ts l nss last r in
    let placed : AllZip IsEntryOf (flat_map all_placed ts) s.0 = s.2 in
    subst (IsAllThere (objects_after predefined ts)) (sym s.1) (record {
      no_condition = all_append HasNoCondition first_reading.walk.entries s.0 first_unconditional (unconditional (flat_map all_placed ts) s.0 placed);
      there = λ p. all_there ts s.0 p placed;
    })

pub one_link : (objects : Namespace) (es : List Entry) → IsAllThere objects es → (e : Entry) (s : Path) (n : NameParts)
    → candidates (seen_by (record { entries = es; entry = e })) s n ≡ option_to_list (answer (is_defined_in objects) s n)
one_link objects es all e s n =
    one_candidate (seen_by (record { entries = es; entry = e })) (is_defined_in objects)
    (λ p. seen_certain es e all.no_condition p ∙ sym (all.there p))
    (λ p y. all.there p ∙ sym (seen_possible es e all.no_condition p) ∙ y) (tries s n)

-- the name is found for certain, where it is found
pub certain_link : (objects : Namespace) (es : List Entry) → IsAllThere objects es → (e : Entry) (s : Path) (n : NameParts)
    → is_certain_name (seen_by (record { entries = es; entry = e })) s n ≡ is_some (answer (is_defined_in objects) s n)
certain_link objects es all e s n =
    one_certain (seen_by (record { entries = es; entry = e })) (is_defined_in objects) (λ p. seen_certain es e all.no_condition p ∙ sym (all.there p)) (tries s n)

all_links : (objects : Namespace) (es : List Entry) → IsAllThere objects es → (e : Entry) (s : Path) (names : List NameParts)
    → map (candidates (seen_by (record { entries = es; entry = e })) s) names ≡ map option_to_list (answers objects s names)
all_links objects es all e s [] = refl
all_links objects es all e s (n ∷ ns) = λ i. one_link objects es all e s n i ∷ all_links objects es all e s ns i

pub strict_links : StrictLinks
strict_links depth tables ts l nss last r e names = all_links (objects_after predefined ts) last.walk.entries (is_all_there depth tables ts l nss last r) e e.scope names

pub strict_certain : StrictCertain
strict_certain depth tables ts l nss last r e n = certain_link (objects_after predefined ts) last.walk.entries (is_all_there depth tables ts l nss last r) e e.scope n
