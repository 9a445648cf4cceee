-- The objects of a namespace, seen one after another.
use Rattle.std.specs.Prelude.{◌≡◌, ℕ, List, [], map, length}
use Rattle.std.specs.FinMap.{get}
use Rattle.acpi_name.specs.Names.{Segment}
use Rattle.acpi_space.specs.Lookups.{Lookup}
use Rattle.acpi_tree.specs.Objects.{ObjectTree, object_view}
use Rattle.acpi_tree.specs.declared.object.Object.{Object}
use Rattle.acpi_text.specs.Lines.{listing_text}
use Rattle.acpi_declare.specs.Links.{Links, links_at}
use Rattle.acpi_places.specs.declared.place.CodePlace.{CodePlace}
use Rattle.acpins_records.specs.declared.building.RecordCollector.{RecordCollector}
use Rattle.acpins_records.specs.Records.{parts_from, bytes_of_data, records_from}
use Rattle.acpins_records.specs.Contents.{all_links, all_data}
use Rattle.acpins_records.specs.steps.Kinds.{AllSuit}

abbrev pub lines_of : List (List Segment × Object) → List (List Segment × ObjectTree)
lines_of pairs = map (λ e. (e.0, object_view e.1)) pairs

-- no places among the objects
abbrev pub no_places : ℕ → ℕ
no_places k = 0

-- the records of the first objects, without their places, and what their links find
pub record AreFirst (es : List (List Segment × ObjectTree)) (links : Lookup Links)
    (codes : Lookup CodePlace) (s : RecordCollector) : Type 0 where
  pub objects_are : s.records.objects.items
      ≡ records_from 0 0 0 0 no_places no_places es links codes
  pub no_targets : s.records.targets.items ≡ []
  pub wanted_are : map (λ a. a.now) s.wanted.items ≡ all_links es links
  pub text_is : s.records.text.items ≡ listing_text es links
  pub parts_are : s.records.«data».parts.items ≡ parts_from 0 0 (all_data es)
  pub bytes_are : s.records.«data».bytes.items ≡ bytes_of_data (all_data es)

-- It was shown these pairs from the start on: it has their paths, and, where no other objects have links or code than
-- those that are asked for some, their records.
pub record AreSeen (first : RecordCollector) (pairs : List (List Segment × Object)) (now : RecordCollector) : Type 0 where
  pub links_stay : now.links ≡ first.links
  pub codes_stay : now.codes ≡ first.codes
  pub paths_are : now.paths ≡ map (λ e. e.0) pairs
  pub count_is : length now.records.objects.items ≡ length pairs
  pub are : AllSuit (links_at first.links.now) (get first.codes) (lines_of pairs)
      → AreFirst (lines_of pairs) (links_at first.links.now) (get first.codes) now
