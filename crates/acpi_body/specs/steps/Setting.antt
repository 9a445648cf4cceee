-- What a method body is read against.
use Rattle.std.specs.Prelude.{ℕ, List, Option, Some, None, nat_lt, if◌then◌else◌, refl}
use Rattle.std.specs.Coded.{Coded, code_by, coded×, coded_ℕ}
use Rattle.std.specs.FinMap as finite
use Rattle.acpi_name.specs.Names.{Segment, NameParts}
use Rattle.acpi_space.specs.Spaces.{PathMap, coded_path}
use Rattle.acpi_tree.specs.declared.object.Object.{Object}
use Rattle.acpi_tree.specs.contracts.object.Object as object
use Rattle.acpi_values.specs.Arguments.{Locals, BodyGrammar}
use Rattle.acpi_values.specs.Grammars.{without_loads}
use Rattle.acpi_body.specs.Arguments.{namespace_of, count_behind}

-- the objects of the namespace, what the table's Externals say, and the method's path
pub record Setting : Type 0 where
  pub objects : PathMap Object
  pub externals : PathMap ℕ
  pub method : List Segment

abbrev pub coded_objects : Coded (PathMap Object)
coded_objects = finite.code coded_path object.the_row.coded

abbrev pub coded_counts : Coded (PathMap ℕ)
coded_counts = finite.code coded_path coded_ℕ

abbrev pub setting_code : Coded Setting
setting_code = code_by (PathMap Object × (PathMap ℕ × List Segment))
    (coded× coded_objects (coded× coded_counts coded_path))
    (λ s. (s.objects, (s.externals, s.method)))
    (λ p. record { objects = p.0; externals = p.1.0; method = p.1.1 }) (λ _. refl)

-- how many values follow a name there
unfoldable pub count_in : Setting → Locals → NameParts → ℕ
count_in s = count_behind (namespace_of s.objects) (finite.get s.externals) s.method

-- .. which is always sure, and no loads stand there
abbrev pub grammar_of : Setting → BodyGrammar
grammar_of s locals = without_loads (λ n. Some (count_in s locals n))

-- the greater of two numbers, or the one that is there
abbrev pub deeper : Option ℕ → Option ℕ → Option ℕ
deeper (Some a) (Some b) = Some (if nat_lt a b then b else a)
deeper (Some a) None = Some a
deeper None b = b
