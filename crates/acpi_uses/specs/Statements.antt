-- The statements of a body by their lines, and the names in them.
use Rattle.std.specs.Prelude.{ℕ, ◌+◌, List, [], ◌∷◌, ◌++◌, map}
use Rattle.acpi_tree.specs.Terms.{TermTree, TermTrees, ElseTree, if_do, while_do, no_terms, more, no_else, else_do}
use Rattle.acpi_uses.specs.Uses.{UseParts, uses_of}

-- each statement, an If (its Else with it) or a While before what stands in it
abbrev mutual
  pub statements_in : TermTree → List TermTree
  statements_in (if_do predicate ts e) =
      if_do predicate ts e ∷ (statements_of ts ++ statements_in_else e)
  statements_in (while_do predicate ts) = while_do predicate ts ∷ statements_of ts
  statements_in t = t ∷ []

  pub statements_in_else : ElseTree → List TermTree
  statements_in_else no_else = []
  statements_in_else (else_do ts) = statements_of ts

  pub statements_of : TermTrees → List TermTree
  statements_of no_terms = []
  statements_of (more t ts) = statements_in t ++ statements_of ts

-- a line, counted from 1, with a name and its role
abbrev pub LineUseParts : Type 0
LineUseParts = ℕ × UseParts

abbrev pub uses_at : ℕ → TermTree → List LineUseParts
uses_at line t = map (λ u. (line, u)) (uses_of t)

-- of statements that stand at a line and the lines behind it
abbrev pub uses_from : ℕ → List TermTree → List LineUseParts
uses_from line [] = []
uses_from line (t ∷ ts) = uses_at line t ++ uses_from (line + 1) ts

-- the names of a body, in the order in which they stand
abbrev pub uses_of_body : TermTrees → List LineUseParts
uses_of_body ts = uses_from 1 (statements_of ts)
