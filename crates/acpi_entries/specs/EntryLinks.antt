-- Where the names of an entry's term may be found (ACPI 6.5, 5.3 and 20.2.5).
use Rattle.std.specs.Prelude.{◌==◌, ℕ, Bool, List, [], ◌∷◌, map, Option, Some, None}
use Rattle.std.specs.Option.{option_map, option_to_list}
use Rattle.std.specs.List.{find}
use Rattle.acpi_name.specs.Names.{NameParts}
use Rattle.acpi_tree.specs.Terms.{TermTree, TermTrees, more, ref, declare}
use Rattle.acpi_outline.specs.Nodes.{PlainTree, FixedTree, NodeTree, plain, term, alias, units}
use Rattle.acpi_conditions.specs.Entries.{Path, Entry}
use Rattle.acpi_conditions.specs.Known.{candidates, is_certain_name}
use Rattle.acpi_conditions.specs.Views.{View, seen_by}
use Rattle.acpi_ranges.specs.Lookup.{Found, node_found, element_found}
use Rattle.acpi_survey.specs.Reading.{AliasSource}

-- a name, the paths at which it may be found, and whether it is found for certain
pub record LinkParts : Type 0 where
  pub name : NameParts
  pub paths : List Path
  pub is_certain : Bool

-- ---- behind all tables

-- the source of a Create field, where it is a name
abbrev pub source_names : TermTrees → List NameParts
source_names (more (ref n) vs) = n ∷ []
source_names _ = []

abbrev pub create_names : TermTree → List NameParts
create_names (declare form before n behind) = source_names before
create_names _ = []

-- the names before an element of a field list: of a region, of index and data, or of region and bank
abbrev pub field_names : FixedTree → List NameParts
field_names (units form ns vs) = ns
field_names _ = []

abbrev pub plain_names : PlainTree → List NameParts
plain_names (term t) = create_names t
plain_names _ = []

abbrev pub node_names : NodeTree → List NameParts
node_names (plain p) = plain_names p
node_names _ = []

abbrev pub searched : Found → List NameParts
searched (element_found to f offset e) = field_names f
searched (node_found to n) = node_names n

abbrev pub view_of : List Entry → Entry → View
view_of es e = record { entries = es; entry = e }

abbrev pub seen_link : View → NameParts → LinkParts
seen_link v n =
    record {
      name = n;
      paths = candidates (seen_by v) v.entry.scope n;
      is_certain = is_certain_name (seen_by v) v.entry.scope n;
    }

-- ---- an Alias, where it is read

abbrev pub source_link : NameParts → AliasSource → LinkParts
source_link n s = record { name = n; paths = s.paths; is_certain = s.is_certain }

-- the name of which it is another
abbrev pub alias_name : Found → Option NameParts
alias_name (node_found to (plain (alias source n))) = Some source
alias_name _ = None

abbrev pub alias_links : List AliasSource → ℕ → NameParts → List LinkParts
alias_links sources place n =
    option_to_list (option_map (source_link n) (find (λ s. s.place == place) sources))

-- ---- an entry

abbrev pub seen_links : List Entry → Entry → List NameParts → List LinkParts
seen_links es e names = map (seen_link (view_of es e)) names

abbrev pub links_by_name : List Entry → List AliasSource → Entry → Option NameParts → List NameParts
    → List LinkParts
links_by_name es sources e None names = seen_links es e names
links_by_name es sources e (Some n) names = alias_links sources e.term.place n

-- the links of an entry whose term is this part, by all entries and the Aliases
abbrev pub links_in : List Entry → List AliasSource → Entry → Found → List LinkParts
links_in es sources e part = links_by_name es sources e (alias_name part) (searched part)

abbrev pub links_of_part : List Entry → List AliasSource → Option Entry → Option Found → List LinkParts
links_of_part es sources (Some e) (Some part) = links_in es sources e part
links_of_part es sources _ _ = []
