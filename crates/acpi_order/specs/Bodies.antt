-- The bodies of the methods that tables declare (ACPI 6.5, 5.3 and 20.2.5).
use Rattle.std.specs.Prelude.{ℕ, List, [], ◌∷◌, ◌++◌, map, ⊤}
use Rattle.acpi_name.specs.Names.{Segment}
use Rattle.acpi_space.specs.Lookups.{Lookup, nothing, singleton, union}
use Rattle.acpi_tree.specs.Terms.{TermTrees}
use Rattle.acpi_declare.specs.Namespace.{Namespace}
use Rattle.acpi_declare.specs.Listing.{Placement}
use Rattle.acpi_declare.specs.Notes.{external_counts}
use Rattle.acpi_declare.specs.Notes as notes
use Rattle.acpi_body.specs.Arguments.{BodyGrammar, body_grammar}
use Rattle.acpi_body.specs.Statements.{ReadsBody}
use Rattle.acpi_body.specs.Bodies.{BodyTree, IsBodyOf}

-- a method that a table declares, with the argument counts that the table's Externals give
pub record Method : Type 0 where
  pub path : List Segment
  pub code : List ℕ
  pub counts : Lookup ℕ

abbrev pub with_counts : Lookup ℕ → notes.Method → Method
with_counts counts m = record { path = m.path; code = m.code; counts = counts }

-- the methods of a table, and of all tables
abbrev pub methods_of : List Placement → List Method
methods_of t = map (with_counts (external_counts t)) (notes.methods t)

abbrev pub all_methods : List (List Placement) → List Method
all_methods [] = []
all_methods (t ∷ ts) = methods_of t ++ all_methods ts

-- the grammar of the body of the method
abbrev pub grammar_of : Namespace → Method → BodyGrammar
grammar_of objects m = body_grammar objects m.counts m.path

abbrev pub IsReading : ℕ → Namespace → Method → TermTrees → Type 0
IsReading depth objects m ts = ReadsBody (grammar_of objects m) m.path depth m.code ts

-- the terms that stand for the method's bytes, or the bytes where none do
abbrev pub IsBody : ℕ → Namespace → Method → BodyTree → Type 0
IsBody depth objects m b = IsBodyOf (grammar_of objects m) m.path depth m.code b

-- the body of each method
abbrev pub AreBodies : ℕ → Namespace → List Method → List BodyTree → Type 0
AreBodies depth objects [] [] = ⊤
AreBodies depth objects (m ∷ ms) (b ∷ bs) = IsBody depth objects m b × AreBodies depth objects ms bs
AreBodies depth objects [] (b ∷ bs) = ⊥
AreBodies depth objects (m ∷ ms) [] = ⊥

-- .. at the method's path
abbrev pub bodies_at : List Method → List BodyTree → Lookup BodyTree
bodies_at (m ∷ ms) (b ∷ bs) = union (bodies_at ms bs) (singleton m.path b)
bodies_at ms bs = nothing
