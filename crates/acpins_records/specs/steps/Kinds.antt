-- Which objects have links, and which have code.
use Rattle.std.specs.Prelude.{◌≡◌, List, [], Option, None}
use Rattle.std.specs.List.{AllByRecursion}
use Rattle.acpi_name.specs.Names.{Segment}
use Rattle.acpi_space.specs.Lookups.{Lookup}
use Rattle.acpi_tree.specs.Objects.{ObjectTree, method_object, field_object, create_object, create_field_object}
use Rattle.acpi_declare.specs.Links.{Links}
use Rattle.acpi_places.specs.declared.place.CodePlace.{CodePlace}
use Rattle.acpins_records.specs.Records.{own_links}

-- of these links those that an object has: fields and buffer fields have some
abbrev pub links_by : ObjectTree → Links → Links
links_by (field_object form flags offset bits) links = links
links_by (create_object width index) links = links
links_by (create_field_object index bits) links = links
links_by _ links = []

-- .. and the code: methods have some
abbrev pub code_by : ObjectTree → Option CodePlace → Option CodePlace
code_by (method_object flags) code = code
code_by _ code = None

-- no other object has links or code
pub record Suits (links : Lookup Links) (codes : Lookup CodePlace) (path : List Segment)
    (object : ObjectTree) : Type 0 where
  pub links_are : own_links links path ≡ links_by object (own_links links path)
  pub code_is : codes path ≡ code_by object (codes path)

abbrev pub AllSuit : Lookup Links → Lookup CodePlace → List (List Segment × ObjectTree) → Type 0
AllSuit links codes es =
    AllByRecursion (λ (e : List Segment × ObjectTree). Suits links codes e.0 e.1) es
