-- The lines of a method body, and what the body has declared before each (ACPI 6.5, 5.5.2.3 and 20.2.5).
use Rattle.std.specs.Prelude.{ℕ, ◌+◌, List, [], ◌∷◌}
use Rattle.std.specs.FinMap as finite
use Rattle.acpi_tree.specs.Terms.{TermTree, TermTrees, if_do, while_do}
use Rattle.acpi_body.specs.Arguments.{Locals}
use Rattle.acpi_body.specs.Statements.{locals_after}
use Rattle.acpi_conditions.specs.Entries.{Path}
use Rattle.acpi_uses.specs.Statements.{statements_of}

-- a statement, its line, from 1, and the paths that the lines before it declare
pub record LineParts : Type 0 where
  pub line : ℕ
  pub before : Locals
  pub statement : TermTree

-- the paths that are declared behind a line; what stands in an If or a While has lines of its own
abbrev pub declared_behind : Path → Locals → TermTree → Locals
declared_behind s locals (if_do predicate ts e) = locals
declared_behind s locals (while_do predicate ts) = locals
declared_behind s locals t = locals_after s locals t

abbrev pub lines_from : ℕ → Path → Locals → List TermTree → List LineParts
lines_from line s locals [] = []
lines_from line s locals (t ∷ ts) =
    record { line = line; before = locals; statement = t }
    ∷ lines_from (line + 1) s (declared_behind s locals t) ts

-- of the body of the method at a path
abbrev pub lines_of : Path → TermTrees → List LineParts
lines_of s ts = lines_from 1 s finite.empty (statements_of ts)
