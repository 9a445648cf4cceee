-- Records, targets, text, parts and bytes of a namespace.
use Rattle.std.specs.Prelude.{◌≡◌, ◌<◌, ℕ, List, map, length, Option, Some, None, slice_get}
use Rattle.std.specs.List.{flat_map, AllZip}
use Rattle.acpi_name.specs.Names.{Segment}
use Rattle.acpi_space.specs.Lookups.{Lookup}
use Rattle.acpi_tree.specs.Tree.{DataTree}
use Rattle.acpi_tree.specs.Objects.{ObjectTree}
use Rattle.acpi_text.specs.Lines.{listing_text}
use Rattle.acpi_declare.specs.Links.{Links}
use Rattle.acpi_places.specs.declared.place.CodePlace.{CodePlace}
use Rattle.acpins_records.specs.declared.parts.PartRecord.{PartRecord}
use Rattle.acpins_records.specs.declared.records.ObjectRecord.{ObjectRecord}
use Rattle.acpins_records.specs.Records.{own_links, records_from, data_of, parts_from, bytes_of_data}
use Rattle.acpins_records.specs.Tree.{none, IsParent, EndsBelow}

-- what stands in the five arrays
pub record Contents : Type 0 where
  pub objects : List ObjectRecord
  pub targets : List ℕ
  pub text : List ℕ
  pub parts : List PartRecord
  pub bytes : List ℕ

-- the place of what a link finds among the paths; none of a link that finds nothing
abbrev pub IsTarget : List (List Segment) → Option (List Segment) → ℕ → Type 0
IsTarget paths (Some p) n = slice_get paths n ≡ Some p
IsTarget paths None n = n ≡ none

-- the links of all objects, in order
abbrev pub all_links : List (List Segment × ObjectTree) → Lookup Links → Links
all_links es links = flat_map (λ (e : List Segment × ObjectTree). own_links links e.0) es

-- the data of all Names, in order
abbrev pub all_data : List (List Segment × ObjectTree) → List DataTree
all_data es = flat_map (λ (e : List Segment × ObjectTree). data_of e.1) es

abbrev pub paths_in : List (List Segment × ObjectTree) → List (List Segment)
paths_in es = map (λ e. e.0) es

-- the contents are those of these objects, whose paths ascend, with their links and the places of their code
pub record AreContents (es : List (List Segment × ObjectTree)) (links : Lookup Links)
    (codes : Lookup CodePlace) (c : Contents) : Type 0 where
  pub parents : ℕ → ℕ
  pub belows : ℕ → ℕ
  pub are_parents : (k : ℕ) → k < length es → IsParent (paths_in es) k (parents k)
  pub are_belows : (k : ℕ) → k < length es → EndsBelow (paths_in es) k (belows k)
  pub objects_are : c.objects ≡ records_from 0 0 0 0 parents belows es links codes
  pub targets_are : AllZip (IsTarget (paths_in es)) (all_links es links) c.targets
  pub text_is : c.text ≡ listing_text es links
  pub parts_are : c.parts ≡ parts_from 0 0 (all_data es)
  pub bytes_are : c.bytes ≡ bytes_of_data (all_data es)
