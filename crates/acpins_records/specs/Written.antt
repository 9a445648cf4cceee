-- What stands in the caller's arrays when a load is written (docs/LIBRARY.md).
use Rattle.std.specs.Prelude.{◌≡◌, ◌⊎◌, ◌<◌, ℕ, List, length, IsTrue}
use Rattle.std.specs.FinMap.{find, is_sorted}
use Rattle.acpi_name.specs.Names.{Segment}
use Rattle.acpi_name.specs.Paths.{path_cmp}
use Rattle.acpi_space.specs.Lookups.{Lookup}
use Rattle.acpi_tree.specs.Objects.{ObjectTree}
use Rattle.acpi_declare.specs.Namespace.{Namespace}
use Rattle.acpi_declare.specs.Links.{Links}
use Rattle.acpi_declare.specs.Loads.{IsLoad, HasNoLoad}
use Rattle.acpi_declare.specs.Refusals.{IsLoadFault}
use Rattle.acpi_declare.specs.declared.fault.LoadReason.{LoadReason}
use Rattle.acpi_declare.specs.declared.fault.LoadFault.TheVariants.{At}
use Rattle.acpi_places.specs.Places.{AreCodePlaces}
use Rattle.acpi_places.specs.declared.place.CodePlace.{CodePlace}
use Rattle.acpins_records.specs.declared.records.Arrays.{Arrays}
pub use Rattle.acpins_lent.specs.Lent.{IsFront, bytes_of}
use Rattle.acpins_records.specs.declared.outcome.Outcome.{Outcome}
use Rattle.acpins_records.specs.Contents.{Contents, AreContents}
use Rattle.acpins_records.specs.Outcomes.{counted, refused_as, reason_path}

-- the contents of the caller's arrays
abbrev pub contents_of : Arrays → Contents
contents_of a =
    record {
      objects = a.objects.now;
      targets = a.targets.now;
      text = a.text.now;
      parts = a.parts.now;
      bytes = a.bytes.now;
    }

-- they stay where they are
abbrev pub SamePlaces : Arrays → Arrays → Type 0
SamePlaces a b =
    (b.objects.ref_ptr ≡ a.objects.ref_ptr) × (b.targets.ref_ptr ≡ a.targets.ref_ptr)
    × (b.text.ref_ptr ≡ a.text.ref_ptr)
    × (b.parts.ref_ptr ≡ a.parts.ref_ptr) × (b.bytes.ref_ptr ≡ a.bytes.ref_ptr)

-- ---- a load

-- the contents are those of the objects and links to which the tables load, in the order of the paths
pub record IsContentsOf (depth : ℕ) (tables : List (List ℕ)) (c : Contents) : Type 0 where
  pub objects : Namespace
  pub links : Lookup Links
  pub loads : IsLoad depth tables objects links
  pub codes : Lookup CodePlace
  pub are_codes : AreCodePlaces depth tables codes
  pub lines : List (List Segment × ObjectTree)
  pub ascending : IsTrue (is_sorted path_cmp lines)
  pub objects_are : (p : List Segment) → find path_cmp p lines ≡ objects p
  pub contents : AreContents lines links codes c

-- .. of each array
pub record AreFronts (c old new : Contents) : Type 0 where
  pub objects : IsFront c.objects old.objects new.objects
  pub targets : IsFront c.targets old.targets new.targets
  pub text : IsFront c.text old.text new.text
  pub parts : IsFront c.parts old.parts new.parts
  pub bytes : IsFront c.bytes old.bytes new.bytes

-- the contents of the load stand in the arrays
pub record IsWritten (depth : ℕ) (tables : List (List ℕ)) (old new : Contents)
    (outcome : Outcome) : Type 0 where
  pub contents : Contents
  pub is_load : IsContentsOf depth tables contents
  pub outcome_is : outcome ≡ counted contents
  pub fronts : AreFronts contents old new

-- one of the arrays is too short
abbrev pub IsShort : (c old : Contents) → Type 0
IsShort c old =
    (length old.objects < length c.objects) ⊎ (length old.targets < length c.targets)
    ⊎ (length old.text < length c.text)
    ⊎ (length old.parts < length c.parts) ⊎ (length old.bytes < length c.bytes)

-- the tables load, but one of the arrays is too short for what they load to
pub record NeedsRoom (depth : ℕ) (tables : List (List ℕ)) (old : Contents)
    (outcome : Outcome) : Type 0 where
  pub contents : Contents
  pub is_load : IsContentsOf depth tables contents
  pub outcome_is : outcome ≡ counted contents
  pub short : IsShort contents old

-- ---- a refusal

-- all but the text is as it was
abbrev pub StayButText : (old new : Contents) → Type 0
StayButText old new = (new.objects ≡ old.objects) × (new.targets ≡ old.targets)
    × (new.parts ≡ old.parts) × (new.bytes ≡ old.bytes)

-- the path that a refusal names stands at the front of the text, where there is room for it; the outcome has its bytes
abbrev pub TellsPath : LoadReason → ℕ → (old new : List ℕ) → Type 0
TellsPath reason n old new = (n ≡ length (reason_path reason))
    × (IsFront (reason_path reason) old new ⊎ ((length old < n) × (new ≡ old)))

-- the tables have no load, and the outcome has a true reason
pub record IsRefusal (depth : ℕ) (tables : List (List ℕ)) (old new : List ℕ)
    (outcome : Outcome) : Type 0 where
  pub table : ℕ
  pub reason : LoadReason
  pub fault : IsLoadFault depth tables (At table reason)
  pub none : HasNoLoad depth tables
  pub outcome_is : outcome ≡ refused_as table reason outcome.text
  pub path_is : TellsPath reason outcome.text old new
