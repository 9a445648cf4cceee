-- One object more.
use Rattle.std.specs.Prelude.{◌≡◌, ◌<◌, ℕ, suc, List, [], ◌∷◌, ◌++◌, length}
use Rattle.std.specs.List.{AllZip}
use Rattle.acpi_name.specs.Names.{Segment}
use Rattle.acpi_name.specs.Text.{path_text}
use Rattle.acpi_space.specs.Lookups.{Lookup}
use Rattle.acpi_tree.specs.Objects.{ObjectTree, object_view}
use Rattle.acpi_text.specs.Lines.{line_text, listing_text}
use Rattle.acpi_declare.specs.Links.{Links}
use Rattle.acpi_places.specs.declared.place.CodePlace.{CodePlace}
use Rattle.acpins_records.specs.declared.parts.Parts.{Parts}
use Rattle.acpins_records.specs.declared.records.ObjectRecord.{ObjectRecord}
use Rattle.acpins_records.specs.declared.building.Entry.{Entry}
use Rattle.acpins_records.specs.declared.building.Records.{Records}
use Rattle.acpins_records.specs.Records.{data_of, parts_from, bytes_of_data, record_of, records_from}
use Rattle.acpins_records.specs.Contents.{Contents, all_links, all_data, paths_in}
use Rattle.acpins_records.specs.Tree.{IsPlaceOf, IsParent, EndsBelow}

-- the places of these answers stand behind the old ones
pub record AddsTargets (paths : List (List Segment)) (answers : Links)
    (old new : List ℕ) : Type 0 where
  pub more : List ℕ
  pub behind : new ≡ old ++ more
  pub are : AllZip (IsPlaceOf paths) answers more

-- a line stands behind the text, and begins with so many bytes of the path
pub record PutsLine (path : List Segment) (object : ObjectTree) (own : Links) (old new : List ℕ)
    (n : ℕ) : Type 0 where
  pub text_is : new ≡ old ++ line_text path object own
  pub count_is : n ≡ length (path_text path)

-- the data of an object stands behind that of others
pub record PutsData (object : ObjectTree) (old new : Parts) : Type 0 where
  pub parts_are : new.parts.items
      ≡ old.parts.items
      ++ parts_from (length old.parts.items) (length old.bytes.items) (data_of object)
  pub bytes_are : new.bytes.items ≡ old.bytes.items ++ bytes_of_data (data_of object)

-- An object's record, line and data stand behind the others. The record has no places among the objects yet.
pub record AddsEntry (e : Entry) (old new : Records) : Type 0 where
  pub objects_are : new.objects.items
      ≡ old.objects.items
      ++ record_of (length old.text.items) e.target (length old.«data».parts.items) 0 0 e.path.now
      (object_view e.object.now) e.links.now e.code ∷ []
  pub targets_stay : new.targets.items ≡ old.targets.items
  pub text_is : new.text.items
      ≡ old.text.items ++ line_text e.path.now (object_view e.object.now) e.links.now
  pub data_is : PutsData (object_view e.object.now) old.«data» new.«data»

-- a record with its places among the objects
abbrev pub placed : (parent below : ℕ) → ObjectRecord → ObjectRecord
placed parent below r = record {
  kind = r.kind;
  line = r.line;
  line_length = r.line_length;
  path_length = r.path_length;
  target = r.target;
  targets = r.targets;
  numbers = r.numbers;
  parent = parent;
  below = below;
  part = r.part;
  code_table = r.code_table;
  code_place = r.code_place;
  code_length = r.code_length;
}

-- .. those of all objects, the first of which has place k
abbrev pub placed_from : ℕ → (parents belows : ℕ → ℕ) → List ObjectRecord → List ObjectRecord
placed_from k parents belows [] = []
placed_from k parents belows (r ∷ rs) =
    placed (parents k) (belows k) r ∷ placed_from (suc k) parents belows rs

-- the records of all objects, with the places of their parents and of what is below them
pub record AreRecords (es : List (List Segment × ObjectTree)) (links : Lookup Links)
    (codes : Lookup CodePlace) (r : Records) : Type 0 where
  pub parents : ℕ → ℕ
  pub belows : ℕ → ℕ
  pub are_parents : (k : ℕ) → k < length es → IsParent (paths_in es) k (parents k)
  pub are_belows : (k : ℕ) → k < length es → EndsBelow (paths_in es) k (belows k)
  pub objects_are : r.objects.items ≡ records_from 0 0 0 0 parents belows es links codes
  pub targets_are : AllZip (IsPlaceOf (paths_in es)) (all_links es links) r.targets.items
  pub text_is : r.text.items ≡ listing_text es links
  pub parts_are : r.«data».parts.items ≡ parts_from 0 0 (all_data es)
  pub bytes_are : r.«data».bytes.items ≡ bytes_of_data (all_data es)

abbrev pub contents_in : Records → Contents
contents_in r =
    record {
      objects = r.objects.items;
      targets = r.targets.items;
      text = r.text.items;
      parts = r.«data».parts.items;
      bytes = r.«data».bytes.items;
    }
