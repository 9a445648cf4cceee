-- Item trees of the strict load as nodes of the survey (ACPI 6.5, 20.2.5).
use Rattle.std.specs.Prelude.{◌≡◌, Bool, List, [], ◌∷◌, map, ⊤, codes, ℕ, suc}
use Rattle.std.specs.List.{flat_map}
use Rattle.std.specs.Option.{option_map}
use Rattle.acpi_name.specs.Names.{Segment, NameParts}
use Rattle.acpi_space.specs.Lookups.{union, nothing}
use Rattle.acpi_tree.specs.Tree.{ItemTree, scope, ItemTrees, no_items, item}
use Rattle.acpi_tree.specs.Objects.{ObjectTree, opens_scope, root_object, scope_object, predefined_object, mutex_object, method_object}
use Rattle.acpi_declare.specs.Namespace.{Namespace}
use Rattle.acpi_declare.specs.Sites.{Effect, declares, opens, expects, kind_object, scope_effect, Step, own_steps, sites}
use Rattle.acpi_declare.specs.Tables.{IsTableOf}
use Rattle.acpi_declare.specs.Listing.{Placement, objects_of, IsListing}
use Rattle.acpi_conditions.specs.Nodes as nodes
use Rattle.acpi_conditions.specs.Nodes.{Nodes, no_nodes}
use Rattle.acpi_conditions.specs.Entries as entries
use Rattle.acpi_conditions.specs.Known.{Known}
use Rattle.acpi_conditions.specs.Listings as conditions
use Rattle.acpi_survey.specs.Predefined.{term_of as predefined_term, first_reading}

abbrev pub term_of : NameParts → Bool → nodes.Term
term_of n is_scope = record { place = 0; name = n; is_scope = is_scope; needs = [] }

-- what a term does with a name, what stands inside it, and the rest; an External has no effect on what is declared
abbrev pub node_of : Effect → NameParts → (inside rest : Nodes) → Nodes
node_of (declares o links code) n inside rest =
    nodes.declares (term_of n (opens_scope o)) inside rest
node_of opens n inside rest = nodes.opens 0 n inside rest
node_of (expects count) n inside rest = rest

abbrev pub steps_nodes : List Step → Nodes → Nodes
steps_nodes [] rest = rest
steps_nodes (x ∷ xs) rest = node_of x.effect x.name no_nodes (steps_nodes xs rest)

abbrev mutual
  pub item_nodes : ItemTree → Nodes → Nodes
  item_nodes (scope kind n is) rest =
      node_of (scope_effect (kind_object kind)) n (items_nodes is no_nodes) rest
  item_nodes i rest = steps_nodes (own_steps i) rest

  pub items_nodes : ItemTrees → Nodes → Nodes
  items_nodes no_items rest = rest
  items_nodes (item i is) rest = item_nodes i (items_nodes is rest)

-- the nodes of a table's items
abbrev pub nodes_of : ItemTrees → Nodes
nodes_of is = items_nodes is no_nodes

-- ---- what is declared

abbrev pub placed_by : Effect → NameParts → List Segment → List Segment → List conditions.Placement
placed_by (declares o links code) n s p =
    record { term = term_of n (opens_scope o); scope = s; path = p } ∷ []
placed_by opens n s p = []
placed_by (expects count) n s p = []

-- the paths that a listing declares, with the terms and their scopes
abbrev pub placed : Placement → List conditions.Placement
placed e = placed_by e.step.effect e.step.name e.scope e.path

abbrev pub all_placed : List Placement → List conditions.Placement
all_placed = flat_map placed

-- objects and terms stand at the same paths, and scopes at the same
abbrev pub Agrees : Namespace → entries.Namespace → Type 0
Agrees objects terms = (p : List Segment)
    → option_map opens_scope (objects p) ≡ option_map (λ (t : nodes.Term). t.is_scope) (terms p)

-- the items of tables have strict listings, each over the objects of those before it
abbrev pub AreItemListings : Namespace → List ItemTrees → List (List Placement) → Type 0
AreItemListings objects [] [] = ⊤
AreItemListings objects (is ∷ iss) (t ∷ ts) =
    IsListing objects (sites is) t × AreItemListings (union objects (objects_of t)) iss ts
AreItemListings objects [] (t ∷ ts) = ⊥
AreItemListings objects (is ∷ iss) [] = ⊥

-- the items of these tables
abbrev pub AreTablesOf : ℕ → ℕ → List (List ℕ) → List ItemTrees → Type 0
AreTablesOf depth number [] [] = ⊤
AreTablesOf depth number (b ∷ bs) (is ∷ iss) =
    IsTableOf depth number b is × AreTablesOf depth (suc number) bs iss
AreTablesOf depth number [] (is ∷ iss) = ⊥
AreTablesOf depth number (b ∷ bs) [] = ⊥

-- ---- before any table

-- the objects before any table, as a list (5.3.1 and 5.7)
abbrev pub predefined_objects : List (List Segment × ObjectTree)
predefined_objects =
    ([], root_object)
    ∷ (codes "_GPE" ∷ [], scope_object)
    ∷ (codes "_PR_" ∷ [], scope_object)
    ∷ (codes "_SB_" ∷ [], scope_object)
    ∷ (codes "_SI_" ∷ [], scope_object)
    ∷ (codes "_TZ_" ∷ [], scope_object)
    ∷ (codes "_GL_" ∷ [], mutex_object 0)
    ∷ (codes "_OSI" ∷ [], method_object 1)
    ∷ (codes "_OS_" ∷ [], predefined_object)
    ∷ (codes "_REV" ∷ [], predefined_object)
    ∷ []

-- the term of each, as the survey has it
abbrev pub placement_of : List Segment × ObjectTree → conditions.Placement
placement_of e =
    record {
      term = predefined_term (record { path = e.0; is_scope = opens_scope e.1; args = 0 });
      scope = [];
      path = e.0;
    }

abbrev pub predefined_terms : entries.Namespace
predefined_terms = conditions.made_behind nothing (map placement_of predefined_objects)

-- what the survey knows then: each of them is an entry without a condition, and certain
abbrev pub predefined_known : Known
predefined_known = first_reading.walk.known
