-- The names that stand in a node, without those in the nodes in it (ACPI 6.5, 20.2.5). One whose code is lost, or that is
-- not gone into, has none.
use Rattle.std.specs.Prelude.{List, [], ◌∷◌, ◌++◌}
use Rattle.acpi_outline.specs.Nodes.{PlainTree, term, external, alias, table_region, FixedTree, scope, if_so, while_so, units, FieldNodes, no_more_fields, fields_lost, field_node, NodeTree, plain, holds, holds_fields}
use Rattle.acpi_uses.specs.declared.role.Role.TheVariants as roles
use Rattle.acpi_uses.specs.Uses.{UseParts, uses_in, uses_in_all, uses_of, with_role, connections}

abbrev pub uses_of_plain : PlainTree → List UseParts
uses_of_plain (term t) = uses_of t
uses_of_plain (external x) = []
-- DefAlias := AliasOp NameString NameString, of which the first is the source (20.2.5.1)
uses_of_plain (alias source n) = (source, roles.Refer) ∷ []
uses_of_plain (table_region n vs) = uses_in_all roles.Value vs

-- what a package declares is no use
abbrev pub uses_of_fixed : FixedTree → List UseParts
uses_of_fixed (scope n) = (n, roles.Scope) ∷ []
uses_of_fixed (if_so predicate) = uses_in roles.Value predicate
uses_of_fixed (while_so predicate) = uses_in roles.Value predicate
uses_of_fixed (units form ns vs) = with_role roles.Field ns ++ uses_in_all roles.Value vs
uses_of_fixed _ = []

abbrev pub uses_of_fields : FieldNodes → List UseParts
uses_of_fields no_more_fields = []
uses_of_fields (fields_lost place why) = []
uses_of_fields (field_node place offset e es) = connections (e ∷ []) ++ uses_of_fields es

abbrev pub uses_of_node : NodeTree → List UseParts
uses_of_node (plain p) = uses_of_plain p
uses_of_node (holds fixed ns) = uses_of_fixed fixed
uses_of_node (holds_fields fixed es) = uses_of_fixed fixed ++ uses_of_fields es
uses_of_node _ = []
