-- The names that stand in a term (ACPI 6.5, 20.2.5).
use Rattle.std.specs.Prelude.{List, [], ◌∷◌, ◌++◌, drop}
use Rattle.acpi_name.specs.Names.{NameParts}
use Rattle.acpi_tree.specs.declared.op.Op.{Op}
use Rattle.acpi_tree.specs.declared.place.OperandKind.{OperandKind}
use Rattle.acpi_tree.specs.declared.place.NamedForm.{NamedForm}
use Rattle.acpi_tree.specs.declared.place.NamedForm.TheVariants as named
use Rattle.acpi_tree.specs.Tree.{FieldTree, connect_name}
use Rattle.acpi_tree.specs.Terms.{TermTree, TermTrees, buffer, pkg, var_pkg, ref, call, apply, if_do, while_do, declare, declare_units, no_terms, more}
use Rattle.acpi_tree.specs.Operators.{operands_of}
use Rattle.acpi_uses.specs.declared.role.Role.{Role}
use Rattle.acpi_uses.specs.declared.role.Role.TheVariants.{Statement, Value, Source, Element, Refer, Field}
use Rattle.acpi_uses.specs.Roles.{call_role, ref_role, role_at}

-- a name and its role
abbrev pub UseParts : Type 0
UseParts = NameParts × Role

-- the role of a name at the first of these operands; what has no place in the row is a value
abbrev pub operand_role : Op → List OperandKind → Role
operand_role op [] = Value
operand_role op (k ∷ ks) = role_at op k

-- The names of a term, no statement, that stands where a name would have the role, in the order in which they stand.
abbrev mutual
  pub uses_in : Role → TermTree → List UseParts
  uses_in role (ref n) = (n, ref_role role) ∷ []
  uses_in role (call n vs) = (n, call_role vs role) ∷ uses_in_all Value vs
  uses_in role (apply op vs) = uses_in_operands op (operands_of op) vs
  uses_in role (buffer size content) = uses_in Value size
  uses_in role (pkg count es) = uses_in_all Element es
  uses_in role (var_pkg count es) = uses_in Value count ++ uses_in_all Element es
  uses_in role _ = []

  pub uses_in_all : Role → TermTrees → List UseParts
  uses_in_all role no_terms = []
  uses_in_all role (more t ts) = uses_in role t ++ uses_in_all role ts

  pub uses_in_operands : Op → List OperandKind → TermTrees → List UseParts
  uses_in_operands op ks no_terms = []
  uses_in_operands op ks (more t ts) =
      uses_in (operand_role op ks) t ++ uses_in_operands op (drop 1 ks) ts

-- ---- statements

-- the role of the first operand of a declaration: of a Create field it is the source
abbrev pub first_role : NamedForm → Role
first_role (named.Create width) = Source
first_role named.CreateField = Source
first_role _ = Value

abbrev pub uses_in_first : Role → TermTrees → List UseParts
uses_in_first role no_terms = []
uses_in_first role (more t ts) = uses_in role t ++ uses_in_all Value ts

-- names of one role
abbrev pub with_role : Role → List NameParts → List UseParts
with_role role [] = []
with_role role (n ∷ ns) = (n, role) ∷ with_role role ns

-- the names of connections in a field list
abbrev pub connections : List FieldTree → List UseParts
connections [] = []
connections (connect_name n ∷ es) = (n, Refer) ∷ connections es
connections (_ ∷ es) = connections es

-- The names of a statement, in the order in which they stand: of an If or a While those of its predicate, and none that
-- it declares.
abbrev pub uses_of : TermTree → List UseParts
uses_of (if_do predicate ts e) = uses_in Value predicate
uses_of (while_do predicate ts) = uses_in Value predicate
uses_of (declare form before n behind) =
    uses_in_first (first_role form) before ++ uses_in_all Value behind
uses_of (declare_units form ns vs es) =
    with_role Field ns ++ (uses_in_all Value vs ++ connections es)
uses_of t = uses_in Statement t
