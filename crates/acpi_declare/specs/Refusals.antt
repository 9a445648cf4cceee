-- Why a list of tables has no load: the first table that has no listing, and the reason (ACPI 6.5, 5.3).
use Rattle.std.specs.Prelude.{◌≡◌, ◌≢◌, ℕ, ◌≤◌, ◌<◌, List, [], ◌∷◌, ◌++◌, length, take}
use Rattle.acpi_table.specs.Tables.{IsTable}
use Rattle.acpi_table.specs.Tables as tables
use Rattle.acpi_tree.specs.Tree.{ItemTrees}
use Rattle.acpi_terms.specs.declared.fault.ItemReason.{ItemReason}
use Rattle.acpi_terms.specs.Spelling.{SpellsItems, items_height}
use Rattle.acpi_terms.specs.Faults.{ShowsItems}
use Rattle.acpi_terms.specs.Faults as faults
use Rattle.acpi_declare.specs.declared.fault.LoadReason.{LoadReason}
use Rattle.acpi_declare.specs.declared.fault.LoadReason.TheVariants.{Table, NotDsdt, NotSsdt, Trailing, Item, Refused}
use Rattle.acpi_declare.specs.declared.fault.LoadFault.{LoadFault}
use Rattle.acpi_declare.specs.declared.fault.LoadFault.TheVariants.{At, Memory}
use Rattle.acpi_pass.specs.Namespace.{Namespace}
use Rattle.acpi_pass.specs.Predefined.{predefined}
use Rattle.acpi_pass.specs.Sites.{sites}
use Rattle.acpi_pass.specs.Listing.{Placement, IsFirstRefusal}
use Rattle.acpi_declare.specs.Tables.{signature_of, IsNumbered, code_of, IsTableOf}
use Rattle.acpi_declare.specs.Loads.{AreListings, objects_after}

-- a table stands at the front of the bytes, and has another signature than its number asks for
pub record HasOtherSignature (number : ℕ) (bytes : List ℕ) : Type 0 where
  pub front : List ℕ
  pub rest : List ℕ
  pub splits : bytes ≡ front ++ rest
  pub table : IsTable front
  pub other : take 4 front ≢ signature_of number

-- a table with the signature of its number stands at the front, and something follows it
pub record HasMore (number : ℕ) (bytes : List ℕ) : Type 0 where
  pub front : List ℕ
  pub rest : List ℕ
  pub splits : bytes ≡ front ++ rest
  pub numbered : IsNumbered number front
  pub more : rest ≢ []

-- Why code can't be read, and where: it spells no items within that many levels, the reason is true of it at
-- that place, and where a term that can't be an item follows whole items, that term is told.
pub record IsCodeFault (depth : ℕ) (code : List ℕ) (reason : ItemReason) (place : ℕ) : Type 0 where
  pub none : (is : ItemTrees) → SpellsItems is code → items_height is ≤ depth → ⊥
  pub shown : ShowsItems depth code reason place
  pub next : (u w : List ℕ) (is : ItemTrees) (why : ItemReason) → code ≡ u ++ w → SpellsItems is u
      → items_height is ≤ depth → faults.Refused why w 0
      → (reason ≡ why) × (place ≡ length u)

-- why a table has no listing over the objects before it: the first of these that holds
abbrev pub IsLoadReason : ℕ → ℕ → Namespace → List ℕ → LoadReason → Type 0
IsLoadReason depth number objects bytes (Table fault) = tables.IsRefusedAs fault bytes
IsLoadReason depth number objects bytes NotDsdt = (number ≡ 0) × HasOtherSignature number bytes
IsLoadReason depth number objects bytes NotSsdt = (0 < number) × HasOtherSignature number bytes
IsLoadReason depth number objects bytes Trailing = HasMore number bytes
IsLoadReason depth number objects bytes (Item reason place) =
    IsNumbered number bytes × IsCodeFault depth (code_of bytes) reason place
IsLoadReason depth number objects bytes (Refused refusal path) = (is : ItemTrees)
    × IsTableOf depth number bytes is × IsFirstRefusal objects (sites is) (refusal, path)

-- the tables before that one have listings, and it has none
pub record IsFirstWithout (depth : ℕ) (tables : List (List ℕ)) (number : ℕ)
    (reason : LoadReason) : Type 0 where
  pub earlier : List (List ℕ)
  pub bytes : List ℕ
  pub later : List (List ℕ)
  pub splits : tables ≡ earlier ++ bytes ∷ later
  pub count : length earlier ≡ number
  pub placements : List (List Placement)
  pub listings : AreListings depth 0 predefined earlier placements
  pub refused : IsLoadReason depth number (objects_after predefined placements) bytes reason

abbrev pub IsLoadFault : ℕ → List (List ℕ) → LoadFault → Type 0
IsLoadFault depth tables (At number reason) = IsFirstWithout depth tables number reason
IsLoadFault depth tables Memory = Unit {0}
