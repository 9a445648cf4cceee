-- How many values follow a name in a method body, and what its grammar is (ACPI 6.5, 5.3 and 20.2.5).
use Rattle.std.specs.Prelude.{ℕ, Bool, ◌||◌, cond, List, Option, Some, None}
use Rattle.std.specs.Option.{option_map, unwrap_or}
use Rattle.std.specs.FinMap.{get, insert}
use Rattle.acpi_name.specs.Names.{Segment, NameParts}
use Rattle.acpi_space.specs.Spaces.{PathMap, is_defined}
use Rattle.acpi_space.specs.Lookups.{Lookup, is_defined_in}
use Rattle.acpi_space.specs.Search.{answer}
use Rattle.acpi_tree.specs.declared.object.Object.{Object}
use Rattle.acpi_tree.specs.Objects.{ObjectTree, object_view, args_of}
use Rattle.acpi_values.specs.Grammars.{without_loads}
pub use Rattle.acpi_values.specs.Arguments.{Locals, BodyGrammar}

-- the object at each path, and the namespace that a map of objects holds
abbrev pub Namespace : Type 0
Namespace = Lookup ObjectTree

abbrev pub namespace_of : PathMap Object → Namespace
namespace_of m p = option_map object_view (get m p)

-- the paths behind the declaration of one
abbrev pub with_path : Locals → List Segment → Locals
with_path locals p = cond (is_defined locals p) locals (insert locals p tt)

-- what the search of a name finds, with the locals laid over the namespace
abbrev pub defined_with : Namespace → Locals → List Segment → Bool
defined_with objects locals p = is_defined locals p || is_defined_in objects p

abbrev pub args_in : Option ObjectTree → ℕ
args_in None = 0
args_in (Some o) = args_of o

-- of what stands at a path: none of a local, those of a method, and none of any other object
abbrev pub args_there : Namespace → Locals → List Segment → ℕ
args_there objects locals p = cond (is_defined locals p) 0 (args_in (objects p))

-- the path that the Externals of the table give for a name: they are searched as a namespace is
abbrev pub expected_place : Lookup ℕ → List Segment → NameParts → Option (List Segment)
expected_place externals s n = answer (is_defined_in externals) s n

abbrev pub expected_at : Lookup ℕ → Option (List Segment) → ℕ
expected_at externals None = 0
expected_at externals (Some p) = unwrap_or (externals p) 0

abbrev pub args_at : Namespace → Locals → ℕ → Option (List Segment) → ℕ
args_at objects locals otherwise None = otherwise
args_at objects locals otherwise (Some p) = args_there objects locals p

-- the arguments of what the search of the name finds from the scope; where it finds nothing, what the Externals say
abbrev pub count_behind : Namespace → Lookup ℕ → List Segment → Locals → NameParts → ℕ
count_behind objects externals s locals n = args_at objects locals
    (expected_at externals (expected_place externals s n))
    (answer (defined_with objects locals) s n)

-- the grammar of a method body for the strict loader, which is always sure how many values follow a name; it has no
-- LoadTable, Load or Unload
abbrev pub body_grammar : Namespace → Lookup ℕ → List Segment → BodyGrammar
body_grammar objects externals s locals =
    without_loads (λ n. Some (count_behind objects externals s locals n))
