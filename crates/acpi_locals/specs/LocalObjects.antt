-- The objects that terms of method bodies declare (ACPI 6.5, 5.5.2.3 and 20.2.5).
use Rattle.std.specs.Prelude.{ℕ, List, [], map, unwrap_or}
use Rattle.std.specs.List.{flat_map}
use Rattle.std.specs.Option.{option_map}
use Rattle.acpi_tree.specs.Terms.{TermTrees}
use Rattle.acpi_conditions.specs.Entries.{Path, Entry}
use Rattle.acpi_kinds.specs.Objects.{ObjectParts}
use Rattle.acpi_entries.specs.EntryLinks.{LinkParts}
use Rattle.acpi_locals.specs.Lines.{LineParts, lines_of}
use Rattle.acpi_locals.specs.Methods.{MethodParts, method_numbered, link_behind}
use Rattle.acpi_locals.specs.Declaring.{Declared, declared_by, linked_names}

-- an object, its path, where the names of its term may be found, the number of the method's entry, and the term's line
pub record LocalParts : Type 0 where
  pub path : Path
  pub object : ObjectParts
  pub links : List LinkParts
  pub method : ℕ
  pub line : ℕ

abbrev pub local_at : MethodParts → LineParts → Declared → LocalParts
local_at m l d =
    record {
      path = d.0;
      object = d.1;
      links = map (link_behind m l.before) (linked_names l.statement);
      method = m.number;
      line = l.line;
    }

abbrev pub locals_at : MethodParts → LineParts → List LocalParts
locals_at m l = map (local_at m l) (declared_by m.path l.statement)

-- line after line
abbrev pub locals_in : TermTrees → MethodParts → List LocalParts
locals_in ts m = flat_map (locals_at m) (lines_of m.path ts)

-- of the body of the method whose entry has that number
abbrev pub local_objects_of : List Entry → (number : ℕ) → TermTrees → List LocalParts
local_objects_of es number ts = unwrap_or (option_map (locals_in ts) (method_numbered es number)) []
