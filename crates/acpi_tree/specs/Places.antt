-- What may stand at a place of a method body, or at the source of a Create field at module level (ACPI 6.5, 20.2.5).
use Rattle.std.specs.Prelude.{ℕ, Bool, true, false, nat_eq}
use Rattle.acpi_tree.specs.declared.place.Place.{Place}
use Rattle.acpi_tree.specs.declared.place.Place.TheVariants.{Value, SuperName, SimpleName, Element, Data, Statement, Source}
use Rattle.acpi_tree.specs.declared.place.OperandKind.{OperandKind}
use Rattle.acpi_tree.specs.declared.place.OperandKind.TheVariants.{At, Target, Byte, Word, DWord}
use Rattle.acpi_tree.specs.Terms.{TermTree, int, str, buffer, pkg, var_pkg, local, arg, debug, no_target, raw, ref, call, apply, if_do, while_do, declare, declare_units}
use Rattle.acpi_tree.specs.Operators.{is_expression, is_reference}

-- DataRefObject, the data of a Name: DataObject := ComputationalData | DefPackage | DefVarPackage, which is a constant,
-- a string, Buffer, Package, VarPackage (20.2.3)
abbrev pub is_data : TermTree → Bool
is_data (int i) = true
is_data (str s) = true
is_data (buffer v s) = true
is_data (pkg n ts) = true
is_data (var_pkg v ts) = true
is_data _ = false

-- PackageElement := DataRefObject | NameString (20.2.5.4)
abbrev pub is_element : TermTree → Bool
is_element (ref n) = true
is_element t = is_data t

-- TermArg := ExpressionOpcode | DataObject | ArgObj | LocalObj; a call is an expression too (20.2.5)
abbrev pub is_value : TermTree → Bool
is_value (local n) = true
is_value (arg n) = true
is_value (call n vs) = true
is_value (apply op vs) = is_expression op
is_value t = is_data t

-- SimpleName := NameString | ArgObj | LocalObj (20.2.2)
abbrev pub is_simple_name : TermTree → Bool
is_simple_name (ref n) = true
is_simple_name (local n) = true
is_simple_name (arg n) = true
is_simple_name _ = false

-- SuperName := SimpleName | DebugObj | ReferenceTypeOpcode, the last of which is RefOf, DerefOf or Index (20.2.2)
abbrev pub is_super_name : TermTree → Bool
is_super_name debug = true
is_super_name (apply op vs) = is_reference op
is_super_name t = is_simple_name t

-- Target := SuperName | NullName: the byte 00 is no target (20.2.2)
abbrev pub is_target : TermTree → Bool
is_target no_target = true
is_target t = is_super_name t

-- SourceBuff of a Create field at module level (20.2.5.2): a name, which is never a call, or a value but a call
abbrev pub is_source : TermTree → Bool
is_source (ref n) = true
is_source (call n vs) = false
is_source t = is_value t

-- TermObj (20.2.5): an operator, Buffer, Package, VarPackage, a call, If, While, a declaration
abbrev pub is_statement : TermTree → Bool
is_statement (buffer v s) = true
is_statement (pkg n ts) = true
is_statement (var_pkg v ts) = true
is_statement (call n vs) = true
is_statement (apply op vs) = true
is_statement (if_do v ts e) = true
is_statement (while_do v ts) = true
is_statement (declare form before n behind) = true
is_statement (declare_units form ns vs es) = true
is_statement _ = false

abbrev pub may_stand : Place → TermTree → Bool
may_stand Value t = is_value t
may_stand SuperName t = is_super_name t
may_stand SimpleName t = is_simple_name t
may_stand Element t = is_element t
may_stand Data t = is_data t
may_stand Statement t = is_statement t
may_stand Source t = is_source t

-- a raw number in k bytes
abbrev pub is_raw : ℕ → TermTree → Bool
is_raw k (raw j n) = nat_eq j k
is_raw k _ = false

abbrev pub may_be : OperandKind → TermTree → Bool
may_be (At place) t = may_stand place t
may_be Target t = is_target t
may_be Byte t = is_raw 1 t
may_be Word t = is_raw 2 t
may_be DWord t = is_raw 4 t
