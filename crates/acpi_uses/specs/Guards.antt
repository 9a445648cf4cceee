-- The statements of a body, and the names that the predicates around and before them show to be declared.
use Rattle.std.specs.Prelude.{true, false, cond, List, [], ◌∷◌, ◌++◌}
use Rattle.acpi_name.specs.Names.{NameParts}
use Rattle.acpi_tree.specs.Terms.{TermTree, TermTrees, ElseTree, if_do, while_do, no_terms, more, no_else, else_do}
use Rattle.acpi_uses.specs.declared.exits.Exits.{Exits}
use Rattle.acpi_uses.specs.Exits.{exits_of, exits_of_else}
use Rattle.acpi_uses.specs.ShownNames.{shown_names}

-- the names that are shown where a statement stands, and the statement
abbrev pub GuardedTree : Type 0
GuardedTree = List NameParts × TermTree

-- what is shown behind a branch with these exits: nothing, if control can come there from its end
unfoldable pub unless_at_end : Exits → List NameParts → List NameParts
unless_at_end exits names = cond exits.end [] names

-- what is shown behind a statement
abbrev pub shown_behind : TermTree → List NameParts
shown_behind (if_do predicate ts e) = unless_at_end (exits_of ts) (shown_names false predicate)
    ++ unless_at_end (exits_of_else e) (shown_names true predicate)
shown_behind _ = []

-- the statements by their lines, in a statement or of a list before which these names are shown
abbrev mutual
  pub guarded_in : List NameParts → TermTree → List GuardedTree
  guarded_in names (if_do predicate ts e) = guarded_of (names ++ shown_names true predicate) ts
      ++ guarded_in_else (names ++ shown_names false predicate) e
  guarded_in names (while_do predicate ts) = guarded_of (names ++ shown_names true predicate) ts
  guarded_in names t = []

  pub guarded_in_else : List NameParts → ElseTree → List GuardedTree
  guarded_in_else names no_else = []
  guarded_in_else names (else_do ts) = guarded_of names ts

  pub guarded_of : List NameParts → TermTrees → List GuardedTree
  guarded_of names no_terms = []
  guarded_of names (more t ts) =
      (names, t) ∷ (guarded_in names t ++ guarded_of (names ++ shown_behind t) ts)
