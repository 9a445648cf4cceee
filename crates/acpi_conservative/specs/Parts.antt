-- The objects that strict listings declare, and the parts of tables that stand for them (ACPI 6.5, 5.3 and 20.2.5).
use Rattle.std.specs.Prelude.{◌≡◌, ◌-◌, ◌^◌, min, ℕ, List, [], ◌∷◌, ◌++◌, Option, Some, None}
use Rattle.std.specs.List.{AllZip, flat_map}
use Rattle.acpi_name.specs.Names.{Segment, NameParts}
use Rattle.acpi_tree.specs.declared.object.FieldForm.{FieldForm}
use Rattle.acpi_tree.specs.declared.object.FieldForm.TheVariants as forms
use Rattle.acpi_tree.specs.declared.place.NamedForm.{NamedForm}
use Rattle.acpi_tree.specs.declared.place.NamedForm.TheVariants as named
use Rattle.acpi_tree.specs.declared.place.UnitsForm.TheVariants as fields
use Rattle.acpi_tree.specs.Tree.{unit}
use Rattle.acpi_tree.specs.Objects.{ObjectTree, device_object, processor_object, power_object, thermal_object, name_object, method_object, region_object, mutex_object, event_object, field_object, create_object, create_field_object}
use Rattle.acpi_tree.specs.Terms.{TermTrees, int, raw, ref, no_terms, more}
use Rattle.acpi_declare.specs.Predefined.{predefined}
use Rattle.acpi_declare.specs.Sites.{Effect, declares, opens, expects}
use Rattle.acpi_declare.specs.Listing.{Placement}
use Rattle.acpi_declare.specs.Loads.{AreListings}
use Rattle.acpi_outline.specs.declared.form.ContainerForm.{ContainerForm}
use Rattle.acpi_outline.specs.declared.form.ContainerForm.TheVariants as containers
use Rattle.acpi_outline.specs.Nodes as nodes
use Rattle.acpi_outline.specs.Nodes.{FixedTree, container, units, NodeTrees, holds, closed}
use Rattle.acpi_conservative.specs.StrictNodes as strict
use Rattle.acpi_tree.specs.DataTerms.{data_term}
use Rattle.acpi_conditions.specs.Entries.{Entry}
use Rattle.acpi_survey.specs.declared.machine_survey.SurveyedTable.{SurveyedTable}
use Rattle.acpi_ranges.specs.EntryParts.{part_in}
use Rattle.acpi_ranges.specs.Lookup.{Found, node_found, element_found}
use Rattle.acpi_survey.specs.Reading.{Reading}
use Rattle.acpi_survey.specs.Predefined.{first_reading}
use Rattle.acpi_survey.specs.Surveys.{AreTables, bytes_of}

-- ---- what is declared

-- an object, the names that its links search, the code of a method, the scope in which the term stands, and the path
pub record DeclaredPart : Type 0 where
  pub object : ObjectTree
  pub links : List NameParts
  pub code : Option (List ℕ)
  pub scope : List Segment
  pub path : List Segment

abbrev pub declared_by : Effect → List Segment → List Segment → List DeclaredPart
declared_by (declares o links code) s p =
    record { object = o; links = links; code = code; scope = s; path = p } ∷ []
declared_by opens s p = []
declared_by (expects count) s p = []

-- the objects that a listing declares, in order
abbrev pub declared : List Placement → List DeclaredPart
declared [] = []
declared (e ∷ es) = declared_by e.step.effect e.scope e.path ++ declared es

abbrev pub all_declared : List (List Placement) → List DeclaredPart
all_declared = flat_map declared

-- ---- parts

-- the part is a term that declares a name, with these operands before and behind it
abbrev pub IsTerm : NamedForm → (before behind : TermTrees) → Found → Type 0
IsTerm form before behind part =
    (to : ℕ) × (n : NameParts) × (part ≡ node_found to (strict.declares form before n behind))

-- .. a package with these numbers, which holds nodes
abbrev pub IsPackage : ContainerForm → (numbers : TermTrees) → Found → Type 0
IsPackage form numbers part = (to : ℕ) × (n : NameParts) × (ns : NodeTrees)
    × (part ≡ node_found to (holds (container form n numbers) ns))

-- .. a method with these flags and this code
abbrev pub IsMethod : (flags : ℕ) → (code : List ℕ) → Found → Type 0
IsMethod flags code part =
    (to : ℕ) × (n : NameParts) × (part ≡ node_found to (closed (nodes.method n flags) code))

-- what stands before the elements of a field list, by its form, flags and names
abbrev pub before_fields : FieldForm → (flags : ℕ) → List NameParts → FixedTree
before_fields forms.Field flags names = units fields.Field names (more (raw 1 flags) no_terms)
before_fields forms.Index flags names = units fields.IndexField names (more (raw 1 flags) no_terms)
before_fields (forms.Bank value) flags names =
    units fields.BankField names (more (int value) (more (raw 1 flags) no_terms))

-- The part that declares an object without code, whose links search these names: each is declared by one form. Nothing
-- in a table declares what is there before all tables. Offsets of field elements are counted up to 2 ^ 64 - 1, to which
-- the fields of a table don't come.
abbrev pub IsPartWithoutCode : ObjectTree → List NameParts → Found → Type 0
IsPartWithoutCode (name_object d) names part =
    (names ≡ []) × IsTerm named.Name no_terms (more (data_term d) no_terms) part
IsPartWithoutCode device_object names part =
    (names ≡ []) × IsPackage containers.Device no_terms part
IsPartWithoutCode (processor_object id block len) names part =
    (names ≡ [])
    × IsPackage containers.Processor
    (more (raw 1 id) (more (raw 4 block) (more (raw 1 len) no_terms))) part
IsPartWithoutCode (power_object deepest order) names part = (names ≡ [])
    × IsPackage containers.Power (more (raw 1 deepest) (more (raw 2 order) no_terms)) part
IsPartWithoutCode thermal_object names part =
    (names ≡ []) × IsPackage containers.Thermal no_terms part
IsPartWithoutCode (region_object space offset len) names part =
    (names ≡ [])
    × IsTerm named.Region no_terms
    (more (raw 1 space) (more (int offset) (more (int len) no_terms))) part
IsPartWithoutCode (mutex_object flags) names part =
    (names ≡ []) × IsTerm named.Mutex no_terms (more (raw 1 flags) no_terms) part
IsPartWithoutCode event_object names part = (names ≡ []) × IsTerm named.Event no_terms no_terms part
IsPartWithoutCode (field_object form flags offset bits) names part =
    (to : ℕ) × (g : Segment)
    × (part ≡ element_found to (before_fields form flags names) (min offset (2 ^ 64 - 1))
    (unit g bits))
IsPartWithoutCode (create_object width index) names part =
    (source : NameParts) × (names ≡ source ∷ [])
    × IsTerm (named.Create width) (more (ref source) (more (int index) no_terms)) no_terms part
IsPartWithoutCode (create_field_object index bits) names part =
    (source : NameParts) × (names ≡ source ∷ [])
    × IsTerm named.CreateField
    (more (ref source) (more (int index) (more (int bits) no_terms))) no_terms part
IsPartWithoutCode _ names part = ⊥

-- .. or that declares an object with code, which is a method
abbrev pub IsPartOf : ObjectTree → List NameParts → Option (List ℕ) → Found → Type 0
IsPartOf o names None part = IsPartWithoutCode o names part
IsPartOf o names (Some code) part =
    (flags : ℕ) × (o ≡ method_object flags) × (names ≡ []) × IsMethod flags code part

-- The entry is that of the object: it stands at the same path, is declared in the same scope, and its part is the
-- object's.
pub record IsDeclaredAt (kept : List SurveyedTable) (d : DeclaredPart) (e : Entry) : Type 0 where
  pub scope : e.scope ≡ d.scope
  pub path : e.path ≡ d.path
  pub part : Found
  pub stands : part_in kept e.term.place ≡ Some part
  pub is_part : IsPartOf d.object d.links d.code part

-- ---- the law

-- Where tables have strict listings, behind the entries that are there before any table stand those of the objects that
-- the listings declare, in their order.
abbrev pub StrictReadIsDeclared : Type 0
StrictReadIsDeclared = (depth : ℕ) (kept : List SurveyedTable) (last : Reading)
    → AreTables depth 0 first_reading kept last
    → (ts : List (List Placement)) → AreListings depth 0 predefined (bytes_of kept) ts
    → (es : List Entry) × (last.walk.entries ≡ first_reading.walk.entries ++ es)
    × AllZip (IsDeclaredAt kept) (all_declared ts) es
