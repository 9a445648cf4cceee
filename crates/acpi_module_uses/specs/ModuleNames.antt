-- The names at module level, and where they may be found (ACPI 6.5, 5.3 and 20.2.5).
use Rattle.std.specs.Prelude.{◌==◌, ℕ, Bool, true, false, cond, is_none, List, [], map, Option, Some, None, slice_get, unwrap_or}
use Rattle.std.specs.List.{find, flat_map}
use Rattle.std.specs.Option.{option_map, option_to_list}
use Rattle.acpi_name.specs.Names.{NameParts}
use Rattle.acpi_outline.specs.Nodes.{alias, scope, NodeTree, plain, holds, NodeTrees}
use Rattle.acpi_outline.specs.View.{nodes_view}
use Rattle.acpi_conditions.specs.Nodes.{Place}
use Rattle.acpi_conditions.specs.Entries.{Path, Entry}
use Rattle.acpi_conditions.specs.Known.{candidates, is_certain_name}
use Rattle.acpi_conditions.specs.Met.{numbers_beyond}
use Rattle.acpi_conditions.specs.Views.{WayView, seen_by_way}
use Rattle.acpi_survey.specs.Reading.{AliasSource}
use Rattle.acpi_survey.specs.Survey.{place_in}
use Rattle.acpi_survey.specs.declared.machine_survey.Survey.{Survey}
use Rattle.acpi_ranges.specs.Index.{Refusals, entered_in, refusals_in}
use Rattle.acpi_ranges.specs.Ranges.{Entered}
use Rattle.acpi_entries.specs.EntryLinks.{LinkParts, source_link}
use Rattle.acpi_uses.specs.declared.role.Role.{Role}
use Rattle.acpi_uses.specs.Uses.{UseParts}
use Rattle.acpi_node_uses.specs.NodeUses.{uses_of_node}
use Rattle.acpi_locals.specs.BodyNames.{last_path}
use Rattle.acpi_locals.specs.Callables.{any_is_callable}
use Rattle.acpi_module_uses.specs.Ways.{NodeAt, nodes_from, at_front}

-- a name that stands at module level, and where it may be found; its role, whether it means a method, and where its
-- node stands
pub record ModuleNameParts : Type 0 where
  pub link : LinkParts
  pub role : Role
  pub is_method : Bool
  pub place : Place

-- what the names of the table of a number are looked up in: all entries, the Aliases, what is entered in the table, what
-- is refused, and of each entry whether it means a method
pub record Setting : Type 0 where
  pub table : ℕ
  pub entries : List Entry
  pub sources : List AliasSource
  pub entered : Entered
  pub refusals : Refusals
  pub callables : List Bool

-- ---- where a name may be found

abbrev pub view_from : Setting → NodeAt → WayView
view_from s n = record { entries = s.entries; way = n.way }

-- behind all tables, from the node's scope, where control came by the way to the node
abbrev pub seen_link : WayView → Path → NameParts → LinkParts
seen_link v from name =
    record {
      name = name;
      paths = candidates (seen_by_way v) from name;
      is_certain = is_certain_name (seen_by_way v) from name;
    }

-- the source of an Alias, where it was found when the Alias was read
abbrev pub alias_link : NameParts → Option AliasSource → LinkParts
alias_link name None = record { name = name; paths = []; is_certain = false }
alias_link name (Some s) = source_link name s

-- the name of a Scope: its target
abbrev pub target_link : NameParts → Option Path → LinkParts
target_link name target =
    record { name = name; paths = option_to_list target; is_certain = true }

abbrev pub link_in : Setting → NodeAt → NodeTree → NameParts → LinkParts
link_in s n (holds (scope opened) ns) name = target_link name (s.entered n.place)
link_in s n (plain (alias source other)) name =
    alias_link name (find (λ x. x.place == place_in s.table n.place) s.sources)
link_in s n _ name = seen_link (view_from s n) n.scope name

-- ---- what it means

-- one of the entries at the path that control may have met on the way means a method
abbrev pub is_method_at : List Bool → WayView → Option Path → Bool
is_method_at callables v None = false
is_method_at callables v (Some p) = any_is_callable callables (numbers_beyond v.way p 0 v.entries)

-- ---- all names

abbrev pub name_linked : Setting → NodeAt → Role → LinkParts → ModuleNameParts
name_linked s n role l =
    record {
      link = l;
      role = role;
      is_method = is_method_at s.callables (view_from s n) (last_path l.paths);
      place = place_in s.table n.place;
    }

abbrev pub name_at : Setting → NodeAt → UseParts → ModuleNameParts
name_at s n u = name_linked s n u.1 (link_in s n n.node u.0)

-- in the order in which they stand; a term that is refused has none
abbrev pub names_at : Setting → NodeAt → List ModuleNameParts
names_at s n = cond (is_none (s.refusals (place_in s.table n.place)))
    (map (name_at s n) (uses_of_node n.node)) []

abbrev pub names_in : Setting → NodeTrees → List ModuleNameParts
names_in s ns = flat_map (names_at s) (nodes_from s.entered s.table at_front ns)

-- of a table, by the marks of the entries that mean a method
abbrev pub setting_of : Survey → List Bool → (table : ℕ) → Setting
setting_of s callables table =
    record {
      table = table;
      entries = s.reading.walk.entries;
      sources = s.reading.sources;
      entered = entered_in s.reading table;
      refusals = refusals_in s.reading;
      callables = callables;
    }

abbrev pub names_of_table : Survey → List Bool → (table : ℕ) → List ModuleNameParts
names_of_table s callables table =
    unwrap_or (option_map (λ t. names_in (setting_of s callables table) (nodes_view t.nodes))
    (slice_get s.tables.items table)) []
