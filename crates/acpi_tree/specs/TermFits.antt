-- Which terms have a spelling, but for the lengths of packages (ACPI 6.5, 20.2.5).
use Rattle.std.specs.Prelude.{Bool, true, false, not, ◌&&◌, nat_eq, nat_le, List, [], ◌∷◌, length}
use Rattle.std.specs.List.{list_all}
use Rattle.acpi_tree.specs.declared.place.Place.{Place}
use Rattle.acpi_tree.specs.declared.place.Place.TheVariants.{Value, Element, Statement}
use Rattle.acpi_tree.specs.declared.place.OperandKind.{OperandKind}
use Rattle.acpi_tree.specs.Terms.{TermTree, TermTrees, int, str, buffer, pkg, var_pkg, local, arg, debug, no_target, raw, ref, call, apply, ElseTree, if_do, no_else, else_do, while_do, declare, declare_units, no_terms, more}
use Rattle.acpi_tree.specs.Operators.{operands_of, is_load, operands_before, operands_behind, names_of_units, operands_of_units}
use Rattle.acpi_tree.specs.Places.{may_stand, may_be}
use Rattle.acpi_name.specs.Names.{is_null_name}
use Rattle.acpi_tree.specs.Fits.{text_fits, field_fits}

-- Strings hold characters; there are eight Locals and seven Args; a name where a term stands isn't the one
-- that the byte 00 spells; no operator loads or unloads a table; each place and each operand has what may stand there.
abbrev mutual
  pub term_fits : TermTree → Bool
  term_fits (int i) = true
  term_fits (str s) = list_all text_fits s
  term_fits (buffer v s) = may_stand Value v && term_fits v
  term_fits (pkg n ts) = all_stand Element ts
  term_fits (var_pkg v ts) = may_stand Value v && term_fits v && all_stand Element ts
  term_fits (local n) = nat_le n 7
  term_fits (arg n) = nat_le n 6
  term_fits debug = true
  term_fits no_target = true
  term_fits (raw k n) = true
  term_fits (ref n) = not (is_null_name n)
  term_fits (call n vs) = not (is_null_name n) && all_stand Value vs
  term_fits (apply op vs) = not (is_load op) && operands_fit (operands_of op) vs
  term_fits (if_do v ts e) =
      may_stand Value v && term_fits v && all_stand Statement ts && else_fits e
  term_fits (while_do v ts) = may_stand Value v && term_fits v && all_stand Statement ts
  term_fits (declare form before n behind) =
      operands_fit (operands_before form) before && operands_fit (operands_behind form) behind
  term_fits (declare_units form ns vs es) = nat_eq (length ns) (names_of_units form)
      && operands_fit (operands_of_units form) vs && list_all field_fits es

  pub else_fits : ElseTree → Bool
  else_fits no_else = true
  else_fits (else_do ts) = all_stand Statement ts

  -- each of them may stand at the place
  pub all_stand : Place → TermTrees → Bool
  all_stand place no_terms = true
  all_stand place (more t ts) = may_stand place t && term_fits t && all_stand place ts

  -- they are operands of these kinds, in order
  pub operands_fit : List OperandKind → TermTrees → Bool
  operands_fit [] no_terms = true
  operands_fit (k ∷ ks) (more t ts) = may_be k t && term_fits t && operands_fit ks ts
  operands_fit _ _ = false

-- the statements of a body
abbrev pub terms_fit : TermTrees → Bool
terms_fit ts = all_stand Statement ts
