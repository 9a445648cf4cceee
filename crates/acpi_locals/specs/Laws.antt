-- Laws of the lines of a method body (ACPI 6.5, 5.5.2.3 and 20.2.5).
use Rattle.std.specs.Prelude.{◌≡◌, ◌+◌, ℕ, List, [], ◌∷◌, ◌++◌, map}
use Rattle.acpi_tree.specs.Terms.{TermTree, TermTrees, ElseTree, if_do, while_do, no_terms, more, no_else, else_do}
use Rattle.acpi_body.specs.Arguments.{Locals, BodyGrammar, with_path}
use Rattle.acpi_body.specs.Statements.{locals_after, locals_after_all, IsStatement}
use Rattle.acpi_conditions.specs.Entries.{Path}
use Rattle.acpi_uses.specs.Statements.{statements_of}
use Rattle.acpi_locals.specs.Lines.{LineParts, declared_behind, lines_from}
use Rattle.acpi_locals.specs.Declaring.{Declared, declared_by}

-- a statement, and the paths that count as declared where reading comes to it
abbrev pub Reached : Type 0
Reached = Locals × TermTree

-- as the statements of a body are read: an Else behind what the first branch declares, and what follows an If or a
-- While behind all that stands in it
abbrev mutual
  pub reached_in : Path → Locals → TermTree → List Reached
  reached_in s locals (if_do predicate ts e) = (locals, if_do predicate ts e)
      ∷ (reached s locals ts ++ reached_in_else s (locals_after_all s locals ts) e)
  reached_in s locals (while_do predicate ts) =
      (locals, while_do predicate ts) ∷ reached s locals ts
  reached_in s locals t = (locals, t) ∷ []

  pub reached_in_else : Path → Locals → ElseTree → List Reached
  reached_in_else s locals no_else = []
  reached_in_else s locals (else_do ts) = reached s locals ts

  pub reached : Path → Locals → TermTrees → List Reached
  reached s locals no_terms = []
  reached s locals (more t ts) = reached_in s locals t ++ reached s (locals_after s locals t) ts

-- What the lines before a statement declare is what counts as declared where the reading of the body comes to it.
abbrev pub LinesAreReached : Type 0
LinesAreReached = (line : ℕ) (s : Path) (locals : Locals) (ts : TermTrees)
    → map (λ (l : LineParts). (l.before, l.statement)) (lines_from line s locals (statements_of ts))
    ≡ reached s locals ts

-- ---- objects and paths

-- the paths behind the declarations of these objects
abbrev pub with_paths : Locals → List Declared → Locals
with_paths locals [] = locals
with_paths locals (d ∷ ds) = with_paths (with_path locals d.0) ds

-- A statement that is read declares objects at exactly the paths that count as declared behind it.
abbrev pub PathsHaveObjects : Type 0
PathsHaveObjects =
    (g : BodyGrammar) (s : Path) (locals : Locals) (t : TermTree) (bytes : List ℕ)
    → IsStatement g s locals t bytes
    → with_paths locals (declared_by s t) ≡ declared_behind s locals t
