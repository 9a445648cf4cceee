-- What rewriting keeps (ACPI 6.5, 5.2.6, 5.3 and 20.2).
use Rattle.std.specs.Prelude.{◌≡◌, ◌↔◌, ◌≤◌, ℕ, List, length}
use Rattle.std.specs.List.{AllZip}
use Rattle.acpi_order.specs.Machines.{Machine, IsMachine}
use Rattle.acpi_rewrite.specs.Rewriting.{AreTablesOfBytes, AreRewritten}

-- the rewritten tables load to the machine of the tables: its objects, links and bodies
abbrev pub RewrittenLoadAlike : Type 0
RewrittenLoadAlike = (depth : ℕ) (tables new : List (List ℕ)) (m : Machine)
    → AreTablesOfBytes tables → AreRewritten depth tables new
    → IsMachine depth tables m ↔ IsMachine depth new m

-- they are their own rewritten tables
abbrev pub RewrittenStay : Type 0
RewrittenStay = (depth : ℕ) (tables new : List (List ℕ)) → AreTablesOfBytes tables
    → AreRewritten depth tables new → AreRewritten depth new new

-- tables are rewritten in one way
abbrev pub OneRewriting : Type 0
OneRewriting = (depth : ℕ) (tables new other : List (List ℕ)) → AreTablesOfBytes new
    → AreTablesOfBytes other → AreRewritten depth tables new → AreRewritten depth tables other
    → new ≡ other

-- none of them is longer than it was
abbrev pub NoneGrows : Type 0
NoneGrows = (depth : ℕ) (tables new : List (List ℕ)) → AreTablesOfBytes tables
    → AreRewritten depth tables new → AllZip (λ old now. length now ≤ length old) tables new
