-- What is written of independent SSDTs in any order.
use Rattle.std.specs.Prelude.{◌≡◌, ◌≢◌, ℕ, List, [], ◌∷◌, map, Some}
use Rattle.acpi_name.specs.Names.{Segment}
use Rattle.acpi_name.specs.Text.{SpellsPathText}
use Rattle.acpi_body.specs.Bodies.{BodyTree}
use Rattle.acpi_order.specs.Joins.{IsSingleLoad}
use Rattle.acpi_order.specs.Machines.{Machine}
use Rattle.acpi_order.specs.Orders.{AreReordered, EachOrderLoadsToJoin}
use Rattle.acpi_rewrite.specs.Rewriting.{LoadToJoin}
use Rattle.acpins_records.specs.declared.body.BodyRecord.{BodyRecord}
use Rattle.acpins_records.specs.declared.records.ObjectRecord.{ObjectRecord}
use Rattle.acpins_records.specs.Bodies.{GivesBody}
use Rattle.acpins_records.specs.Contents.{Contents}
use Rattle.acpins_records.specs.Rewrites.{joined, ends_from}
use Rattle.acpins_records.specs.Tree.{none}
use Rattle.acpins_records.specs.Written.{AreFronts, IsContentsOf, IsFront}

-- ---- objects

-- the record without the number of its table
abbrev pub without_table : ObjectRecord → ObjectRecord
without_table r = record r { code_table = none }

-- the same but for the numbers of tables
pub record AreAlike (c d : Contents) : Type 0 where
  pub objects : map without_table d.objects ≡ map without_table c.objects
  pub targets : d.targets ≡ c.targets
  pub text : d.text ≡ c.text
  pub parts : d.parts ≡ c.parts
  pub bytes : d.bytes ≡ c.bytes

-- Of independent SSDTs in this order the arrays begin with what stands there in any order, but for the numbers of
-- tables.
abbrev pub IsWrittenInAnyOrder : ℕ → List (List ℕ) → (old new : Contents) → Type 0
IsWrittenInAnyOrder depth tables old new = (dsdt : List ℕ) (ssdts given : List (List ℕ))
    → tables ≡ dsdt ∷ given → AreReordered depth dsdt ssdts given
    → (c : Contents) → IsContentsOf depth (dsdt ∷ ssdts) c
    → (d : Contents) × AreFronts d old new × AreAlike c d

-- ---- a body

-- a body that a single load has at the path that the bytes spell stands at the front of the text
pub record IsSingleBodyWritten (depth : ℕ) (dsdt : List ℕ) (ssdts tables : List (List ℕ))
    (spelled old new : List ℕ) (r : BodyRecord) : Type 0 where
  pub path : List Segment
  pub spells : SpellsPathText path spelled
  pub single : Machine
  pub is_single : IsSingleLoad depth dsdt ssdts single
  pub body : BodyTree
  pub there : single.bodies path ≡ Some body
  pub text : List ℕ
  pub gives : GivesBody depth tables path body r text
  pub front : IsFront text old new

-- .. where the tables are independent SSDTs in any order
abbrev pub IsBodyInAnyOrder : ℕ → List (List ℕ) → (spelled old new : List ℕ) → BodyRecord → Type 0
IsBodyInAnyOrder depth tables spelled old new r = (dsdt : List ℕ) (ssdts given : List (List ℕ))
    → tables ≡ dsdt ∷ given → AreReordered depth dsdt ssdts given
    → IsSingleBodyWritten depth dsdt ssdts tables spelled old new r

-- ---- a verdict

-- the SSDTs, where there are some, load in each order to the join of their single loads
abbrev pub LoadInAnyOrder : ℕ → List (List ℕ) → Type 0
LoadInAnyOrder depth tables = (dsdt : List ℕ) (ssdts : List (List ℕ)) → tables ≡ dsdt ∷ ssdts
    → ssdts ≢ [] → EachOrderLoadsToJoin depth dsdt ssdts

-- ---- rewritten tables

-- Of independent SSDTs in any order the tables that are written load to the join of the single loads.
abbrev pub AreTablesInAnyOrder : ℕ → List (List ℕ) → (old new ends ends' : List ℕ) → Type 0
AreTablesInAnyOrder depth tables old new ends ends' =
    (dsdt : List ℕ) (ssdts given : List (List ℕ))
    → tables ≡ dsdt ∷ given → AreReordered depth dsdt ssdts given
    → (rewritten : List (List ℕ)) × LoadToJoin (IsSingleLoad depth dsdt ssdts) depth rewritten
    × IsFront (joined rewritten) old new × IsFront (ends_from 0 rewritten) ends ends'
