-- What a term in a method body declares (ACPI 6.5, 5.5.2.3 and 20.2.5.2).
use Rattle.std.specs.Prelude.{ℕ, List, [], ◌∷◌, ◌++◌, Option, Some, None}
use Rattle.std.specs.Option.{option_to_list}
use Rattle.acpi_name.specs.Names.{NameParts}
use Rattle.acpi_name.specs.Paths.{place_of}
use Rattle.acpi_tree.specs.declared.place.NamedForm.{NamedForm}
use Rattle.acpi_tree.specs.declared.place.NamedForm.TheVariants as nameds
use Rattle.acpi_tree.specs.Tree.{FieldTree, unit}
use Rattle.acpi_tree.specs.Terms.{TermTree, TermTrees, ref, call, declare, declare_units, no_terms, more}
use Rattle.acpi_outline.specs.Outline.{bits_behind}
use Rattle.acpi_conditions.specs.Entries.{Path}
use Rattle.acpi_kinds.specs.Objects.{ObjectParts, create, create_bits}
use Rattle.acpi_objects.specs.Declaring.{named_object, unit_object}

-- ---- the source of a Create field

abbrev pub unless_followed : (values : TermTrees) → NameParts → Option NameParts
unless_followed no_terms n = Some n
unless_followed (more v vs) n = None

-- a name that no values follow
abbrev pub name_alone : TermTree → Option NameParts
name_alone (ref n) = Some n
name_alone (call n vs) = unless_followed vs n
name_alone _ = None

abbrev pub unless_named : Option NameParts → TermTree → Option TermTree
unless_named None t = Some t
unless_named (Some n) t = None

-- a source that isn't such a name
abbrev pub computed : TermTree → Option TermTree
computed t = unless_named (name_alone t) t

-- ---- objects

-- by a declaration of one name, with what stands before the name and behind it
abbrev pub named_local : NamedForm → (before behind : TermTrees) → Option ObjectParts
named_local (nameds.Create width) (more s (more i vs)) behind = Some (create width (computed s) i)
named_local nameds.CreateField (more s (more i (more b vs))) behind =
    Some (create_bits (computed s) i b)
named_local form before behind = named_object form before behind

-- an element of so many bits at an offset in the field list of a term
abbrev pub unit_local : TermTree → (offset bits : ℕ) → Option ObjectParts
unit_local (declare_units form ns vs es) offset bits = unit_object form vs offset bits
unit_local _ offset bits = None

-- ---- what is declared, in the scope of the method's path

-- an object, and the path at which it is declared
abbrev pub Declared : Type 0
Declared = Path × ObjectParts

abbrev pub declared_at : Option Path → Option ObjectParts → List Declared
declared_at (Some p) (Some o) = (p, o) ∷ []
declared_at _ _ = []

-- a named element is declared by itself
abbrev pub declared_unit : Path → TermTree → (offset : ℕ) → FieldTree → List Declared
declared_unit s t offset (unit g bits) =
    declared_at (Some (s ++ g ∷ [])) (unit_local t offset bits)
declared_unit s t offset _ = []

-- elements of the field list of a term, from so many bits on
abbrev pub declared_units : Path → TermTree → (offset : ℕ) → List FieldTree → List Declared
declared_units s t offset [] = []
declared_units s t offset (e ∷ es) =
    declared_unit s t offset e ++ declared_units s t (bits_behind offset e) es

abbrev pub declared_by : Path → TermTree → List Declared
declared_by s (declare form before n behind) =
    declared_at (place_of s n) (named_local form before behind)
declared_by s (declare_units form ns vs es) =
    declared_units s (declare_units form ns vs es) 0 es
declared_by s _ = []

-- ---- names that have links

-- the source, where it is a name that no values follow
abbrev pub source_names : NamedForm → (before : TermTrees) → List NameParts
source_names (nameds.Create width) (more s vs) = option_to_list (name_alone s)
source_names nameds.CreateField (more s vs) = option_to_list (name_alone s)
source_names _ before = []

-- of a field list the region; index and data; or region and bank
abbrev pub linked_names : TermTree → List NameParts
linked_names (declare form before n behind) = source_names form before
linked_names (declare_units form ns vs es) = ns
linked_names _ = []
