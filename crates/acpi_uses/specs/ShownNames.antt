-- The names that a predicate shows to be declared (ACPI 6.5, 19.6.14).
use Rattle.std.specs.Prelude.{Bool, true, false, not, ◌||◌, cond, Option, Some, None, List, [], ◌∷◌, ◌++◌}
use Rattle.acpi_name.specs.Names.{NameParts}
use Rattle.acpi_tree.specs.declared.op.Op.{Op}
use Rattle.acpi_tree.specs.declared.op.Op.TheVariants as op
use Rattle.acpi_tree.specs.Terms.{TermTree, TermTrees, ref, apply, no_terms, more}
use Rattle.acpi_uses.specs.Truth.{truth_of}

abbrev pub is_false : Option Bool → Bool
is_false (Some false) = true
is_false _ = false

-- whether one of them is a constant of value 0
abbrev pub has_zero : TermTrees → Bool
has_zero no_terms = false
has_zero (more t ts) = is_false (truth_of t) || has_zero ts

-- the value that each operand but a constant has where the operator has the value, if that tells it
abbrev pub operand_value : Op → Bool → TermTrees → Option Bool
operand_value op.LAnd true vs = Some true
operand_value op.LOr false vs = Some false
operand_value op.LNot value vs = Some (not value)
operand_value op.LEqual value vs = cond (has_zero vs) (Some (not value)) None
operand_value _ value vs = None

-- CondRefOf is true where its name is declared
abbrev pub cond_ref_names : Op → Bool → TermTrees → List NameParts
cond_ref_names op.CondRefOf true (more (ref n) vs) = n ∷ []
cond_ref_names _ value vs = []

-- the names that a predicate shows to be declared where it has the value
abbrev mutual
  pub shown_names : Bool → TermTree → List NameParts
  shown_names value (apply op vs) =
      cond_ref_names op value vs ++ names_shown_inside (operand_value op value vs) vs
  shown_names value _ = []

  pub names_shown_inside : Option Bool → TermTrees → List NameParts
  names_shown_inside value no_terms = []
  names_shown_inside None (more t ts) = []
  names_shown_inside (Some value) (more t ts) =
      shown_names value t ++ names_shown_inside (Some value) ts
