-- The parts of a term that declares.
use Rattle.std.specs.Prelude.{List, [], Option, Some, None}
use Rattle.acpi_name.specs.Names.{NameParts}
use Rattle.acpi_tree.specs.Tree.{FieldTree}
use Rattle.acpi_tree.specs.Terms.{TermTree, declare, declare_units}
use Rattle.acpi_kinds.specs.Objects.{ObjectParts}
use Rattle.acpi_locals.specs.Declaring.{named_local}

-- the name, where it declares one
abbrev pub declared_name : TermTree → Option NameParts
declared_name (declare form before n behind) = Some n
declared_name _ = None

-- the object of that name
abbrev pub named_object : TermTree → Option ObjectParts
named_object (declare form before n behind) = named_local form before behind
named_object _ = None

-- the field list, where it declares the elements of one
abbrev pub field_list : TermTree → List FieldTree
field_list (declare_units form ns vs es) = es
field_list _ = []
