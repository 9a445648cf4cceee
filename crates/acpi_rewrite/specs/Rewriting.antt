-- Rewritten tables: what tables say in its shortest spelling (ACPI 6.5, 5.2.6 and 20.2).
use Rattle.std.specs.Prelude.{◌≡◌, ◌<◌, ℕ, List, [], ◌∷◌, ◌++◌, Option, Some, All, ⊤}
use Rattle.std.specs.List.{AllByRecursion, AllZip}
use Rattle.acpi_table.specs.Tables.{IsTable, header_of}
use Rattle.acpi_tree.specs.Tree.{ItemTree, scope, method, ItemTrees, no_items, item}
use Rattle.acpi_terms.specs.Spelling.{SpellsItems}
use Rattle.acpi_declare.specs.Namespace.{Namespace}
use Rattle.acpi_declare.specs.Predefined.{predefined}
use Rattle.acpi_declare.specs.Listing.{Placement}
use Rattle.acpi_declare.specs.Loads.{AreListings, objects_after}
use Rattle.acpi_declare.specs.Tables.{code_of}
use Rattle.acpi_body.specs.Bodies.{BodyTree, read, unread}
use Rattle.acpi_order.specs.Bodies.{Method, methods_of, IsBody}
use Rattle.acpi_order.specs.Joins.{IsJoin}
use Rattle.acpi_order.specs.Machines.{Machine, IsMachine}
use Rattle.acpi_write.specs.CanonicalItems.{items_bytes}
use Rattle.acpi_write.specs.CanonicalTerms.{terms_bytes}
use Rattle.acpi_write.specs.Tables.{header_for}

-- ---- tables in memory

-- each byte is a number below 256
abbrev pub AreTablesOfBytes : List (List ℕ) → Type 0
AreTablesOfBytes tables = AllByRecursion (All (λ b. b < 256)) tables

-- ---- method code in items

-- the code of each method, in byte order
abbrev mutual
  pub item_codes : ItemTree → List (List ℕ)
  item_codes (method n flags code) = code ∷ []
  item_codes (scope kind n is) = codes is
  item_codes _ = []

  pub codes : ItemTrees → List (List ℕ)
  codes no_items = []
  codes (item i is) = item_codes i ++ codes is

-- the items, all methods of which are empty
abbrev mutual
  pub item_without_code : ItemTree → ItemTree
  item_without_code (method n flags code) = method n flags []
  item_without_code (scope kind n is) = scope kind n (without_code is)
  item_without_code i = i

  pub without_code : ItemTrees → ItemTrees
  without_code no_items = no_items
  without_code (item i is) = item (item_without_code i) (without_code is)

-- ---- bodies

-- the shortest spelling of a body that is read, and the bytes of one that isn't
abbrev pub body_bytes : BodyTree → Option (List ℕ)
body_bytes (read ts) = terms_bytes ts
body_bytes (unread kept) = Some kept

-- what is written in the place of a method's code
abbrev pub IsNewCode : ℕ → Namespace → Method → List ℕ → Type 0
IsNewCode depth objects m code =
    (b : BodyTree) × IsBody depth objects m b × (body_bytes b ≡ Some code)

-- ---- tables

-- the table of the shortest spelling of these items, with the header of another but for Length and Checksum
pub record IsShortest (old : List ℕ) (is : ItemTrees) (new : List ℕ) : Type 0 where
  pub table : IsTable new
  pub header : header_of new ≡ header_for (header_of old) new
  pub spelling : items_bytes is ≡ Some (code_of new)

-- a table of these placements, rewritten over the objects of all tables: its items, with new code for their methods
pub record IsRewritten (depth : ℕ) (objects : Namespace) (placements : List Placement)
    (old new : List ℕ) : Type 0 where
  pub items : ItemTrees
  pub spelled : SpellsItems items (code_of old)
  pub rewritten : ItemTrees
  pub alike : without_code rewritten ≡ without_code items
  pub bodies : AllZip (IsNewCode depth objects) (methods_of placements) (codes rewritten)
  pub written : IsShortest old rewritten new

-- .. each table
abbrev pub AreEachRewritten : ℕ → Namespace → List (List Placement) → List (List ℕ) → List (List ℕ)
    → Type 0
AreEachRewritten depth objects [] [] [] = ⊤
AreEachRewritten depth objects (t ∷ ts) (b ∷ bs) (n ∷ ns) =
    IsRewritten depth objects t b n × AreEachRewritten depth objects ts bs ns
AreEachRewritten depth objects _ _ _ = ⊥

-- the tables of a load, rewritten
pub record AreRewritten (depth : ℕ) (tables new : List (List ℕ)) : Type 0 where
  pub placements : List (List Placement)
  pub listings : AreListings depth 0 predefined tables placements
  pub each : AreEachRewritten depth (objects_after predefined placements) placements tables new

-- ---- independent SSDTs

-- these tables load to the join of the parts
abbrev pub LoadToJoin : (Machine → Type 0) → ℕ → List (List ℕ) → Type 0
LoadToJoin Part depth tables = (m : Machine) × IsMachine depth tables m × IsJoin Part m
