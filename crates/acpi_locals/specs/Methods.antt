-- Where the names of a method's body may be found (ACPI 6.5, 5.3 and 5.5.2.3).
use Rattle.std.specs.Prelude.{ℕ, List, Option, slice_get}
use Rattle.std.specs.Option.{option_map}
use Rattle.acpi_name.specs.Names.{NameParts}
use Rattle.acpi_body.specs.Arguments.{Locals}
use Rattle.acpi_conditions.specs.Entries.{Path, Entry}
use Rattle.acpi_conditions.specs.Known.{Known, candidates, is_certain_name}
use Rattle.acpi_conditions.specs.Views.{seen_by}
use Rattle.acpi_survey.specs.Bodies.{known_behind}
use Rattle.acpi_entries.specs.EntryLinks.{LinkParts, view_of}

-- the number of a method's entry, what is seen from there, and its path, which is the scope of the names in its body
pub record MethodParts : Type 0 where
  pub number : ℕ
  pub seen : Known
  pub path : Path

abbrev pub method_of : List Entry → ℕ → Entry → MethodParts
method_of es number e = record { number = number; seen = seen_by (view_of es e); path = e.path }

abbrev pub method_numbered : List Entry → ℕ → Option MethodParts
method_numbered es number = option_map (method_of es number) (slice_get es number)

-- a name, and where it may be found behind these declarations of the body, each path of which is certain
abbrev pub link_behind : MethodParts → Locals → NameParts → LinkParts
link_behind m locals n =
    record {
      name = n;
      paths = candidates (known_behind locals m.seen) m.path n;
      is_certain = is_certain_name (known_behind locals m.seen) m.path n;
    }
