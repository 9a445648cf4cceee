-- Terms of method bodies apart from where they lie in memory (ACPI 6.5, 20.2.5).
use Rattle.std.specs.Prelude.{ℕ, List, [], ◌∷◌}
use Rattle.acpi_name.specs.Names.{NameParts}
use Rattle.acpi_tree.specs.declared.tree.Int.{Int}
use Rattle.acpi_tree.specs.declared.op.Op.{Op}
use Rattle.acpi_tree.specs.declared.place.NamedForm.{NamedForm}
use Rattle.acpi_tree.specs.declared.place.UnitsForm.{UnitsForm}
use Rattle.acpi_tree.specs.Tree.{FieldTree}

-- `raw k n` is an operand that is no term: the number n in k bytes. A declaration of one name has operands
-- before and behind the name; one of field units has names, operands and the field list.
mutual
  pub data TermTree : Type 0 where
    int : Int → TermTree
    str : List ℕ → TermTree
    buffer : (size : TermTree) (content : List ℕ) → TermTree
    pkg : (count : ℕ) → TermTrees → TermTree
    var_pkg : (count : TermTree) → TermTrees → TermTree
    local : ℕ → TermTree
    arg : ℕ → TermTree
    debug : TermTree
    no_target : TermTree
    raw : ℕ → ℕ → TermTree
    ref : NameParts → TermTree
    call : NameParts → TermTrees → TermTree
    apply : Op → TermTrees → TermTree
    if_do : (predicate : TermTree) → TermTrees → ElseTree → TermTree
    while_do : (predicate : TermTree) → TermTrees → TermTree
    declare : NamedForm → (before : TermTrees) → NameParts → (behind : TermTrees) → TermTree
    declare_units : UnitsForm → List NameParts → TermTrees → List FieldTree → TermTree

  -- the statements of an Else, where an If has one
  pub data ElseTree : Type 0 where
    no_else : ElseTree
    else_do : TermTrees → ElseTree

  pub data TermTrees : Type 0 where
    no_terms : TermTrees
    more : TermTree → TermTrees → TermTrees

abbrev pub terms_of : List TermTree → TermTrees
terms_of [] = no_terms
terms_of (t ∷ ts) = more t (terms_of ts)
