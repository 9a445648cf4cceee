-- Elements of packages that are declared nowhere (ACPI 6.5, 5.3 and 19.6.102).
use Rattle.std.specs.Prelude.{◌&&◌, ℕ, Bool, true, false, cond, List, [], filter, map, Option, Some, None, slice_get}
use Rattle.acpi_name.specs.Names.{NameParts}
use Rattle.acpi_name.specs.NameEqual.{name_eq}
use Rattle.acpi_tree.specs.declared.place.NamedForm.TheVariants as named
use Rattle.acpi_tree.specs.Terms.{TermTree, declare}
use Rattle.acpi_outline.specs.Nodes.{plain, term}
use Rattle.acpi_conditions.specs.Entries.{Entry, is_empty}
use Rattle.acpi_conditions.specs.Views.{View}
use Rattle.acpi_ranges.specs.Lookup.{Found, node_found}
use Rattle.acpi_ranges.specs.EntryParts.{part_declaring}
use Rattle.acpi_entries.specs.EntryLinks.{seen_link, view_of}
use Rattle.acpi_name_checks.specs.Firsts.{firsts_by}
use Rattle.acpi_survey.specs.declared.machine_survey.Survey.{Survey}
use Rattle.acpi_uses.specs.declared.role.Role.{Role}
use Rattle.acpi_uses.specs.declared.role.Role.TheVariants.{Element}
use Rattle.acpi_uses.specs.Uses.{UseParts, uses_of}

abbrev pub is_element : Role → Bool
is_element Element = true
is_element _ = false

-- DefName := NameOp NameString DataRefObject (20.2.5.1)
abbrev pub is_name : TermTree → Bool
is_name (declare named.Name before n behind) = true
is_name _ = false

abbrev pub if_name : TermTree → Option TermTree
if_name t = cond (is_name t) (Some t) None

abbrev pub name_term : Found → Option TermTree
name_term (node_found to (plain (term t))) = if_name t
name_term _ = None

abbrev pub uses_there : Option TermTree → List UseParts
uses_there None = []
uses_there (Some t) = uses_of t

-- an element of a package, whose name has no candidate behind all tables
abbrev pub is_lost_element : View → UseParts → Bool
is_lost_element v u = is_element u.1 && is_empty (seen_link v u.0).paths

-- each name once, where it first stands
abbrev pub lost_elements : View → List UseParts → List NameParts
lost_elements v us = firsts_by name_eq (map (λ (u : UseParts). u.0) (filter (is_lost_element v) us))

abbrev pub elements_of_part : List Entry → Option Entry → Option Found → List NameParts
elements_of_part es (Some e) (Some part) =
    lost_elements (view_of es e) (uses_there (name_term part))
elements_of_part es _ _ = []

-- of the entry of that number
abbrev pub elements_nowhere : Survey → (number : ℕ) → List NameParts
elements_nowhere s number = elements_of_part s.reading.walk.entries
    (slice_get s.reading.walk.entries number)
    (part_declaring s.tables.items s.reading.walk.entries number)
