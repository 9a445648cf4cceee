-- The names in method bodies, and where they may be found (ACPI 6.5, 5.3 and 20.2.5).
use Rattle.std.specs.Prelude.{◌-◌, ℕ, Bool, false, List, [], length, map, Option, Some, None, slice_get, unwrap_or}
use Rattle.std.specs.List.{flat_map}
use Rattle.std.specs.Option.{option_map}
use Rattle.acpi_space.specs.Spaces.{is_defined}
use Rattle.acpi_tree.specs.Terms.{TermTrees}
use Rattle.acpi_body.specs.Arguments.{Locals}
use Rattle.acpi_conditions.specs.Entries.{Path, Entry}
use Rattle.acpi_entries.specs.EntryLinks.{LinkParts}
use Rattle.acpi_uses.specs.declared.role.Role.{Role}
use Rattle.acpi_uses.specs.Uses.{UseParts, uses_of}
use Rattle.acpi_locals.specs.Lines.{LineParts, lines_of}
use Rattle.acpi_locals.specs.Methods.{MethodParts, method_numbered, link_behind}

-- A name that stands in a body, and where it may be found; whether the last of these paths is one that a line before
-- declares; its role, the number of the method's entry, and its line.
pub record BodyNameParts : Type 0 where
  pub link : LinkParts
  pub is_local : Bool
  pub role : Role
  pub method : ℕ
  pub line : ℕ

abbrev pub last_path : List Path → Option Path
last_path ps = slice_get ps (length ps - 1)

abbrev pub is_declared : Locals → Option Path → Bool
is_declared locals None = false
is_declared locals (Some p) = is_defined locals p

abbrev pub name_at : MethodParts → (line : ℕ) → Locals → UseParts → BodyNameParts
name_at m line before u =
    record {
      link = link_behind m before u.0;
      is_local = is_declared before (last_path (link_behind m before u.0).paths);
      role = u.1;
      method = m.number;
      line = line;
    }

-- in the order in which they stand
abbrev pub names_at : MethodParts → LineParts → List BodyNameParts
names_at m l = map (name_at m l.line l.before) (uses_of l.statement)

-- line after line
abbrev pub names_in : TermTrees → MethodParts → List BodyNameParts
names_in ts m = flat_map (names_at m) (lines_of m.path ts)

-- of the body of the method whose entry has that number
abbrev pub names_of_body : List Entry → (number : ℕ) → TermTrees → List BodyNameParts
names_of_body es number ts = unwrap_or (option_map (names_in ts) (method_numbered es number)) []
