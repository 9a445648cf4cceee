-- The nodes of a table: what matters to what the table declares (ACPI 6.5, 20.2.5).
use Rattle.std.specs.Prelude.{ℕ, Bool, List, [], ◌∷◌, ◌++◌}
use Rattle.acpi_name.specs.Names.{NameParts}

-- where a term stands; it tells one If from another
abbrev pub Place : Type 0
Place = ℕ

-- A term that declares a name: whether others may be declared below the object, and the names in its operands that have
-- to be found
pub record Term : Type 0 where
  pub place : Place
  pub name : NameParts
  pub is_scope : Bool
  pub needs : List NameParts

-- Return, Break and Continue
pub data Stop : Type 0 where
  returns : Stop
  breaks : Stop
  continues : Stop

-- A list of nodes, each with those behind it: a term, what stands inside it and the rest; a Scope; an If with what it
-- does where its test holds and where it doesn't; a While; and a stop. What has no effect on what is declared is left
-- out.
pub data Nodes : Type 0 where
  no_nodes : Nodes
  declares : Term → (inside rest : Nodes) → Nodes
  opens : Place → NameParts → (inside rest : Nodes) → Nodes
  branch : Place → (first other rest : Nodes) → Nodes
  loop : Place → (body rest : Nodes) → Nodes
  stop : Place → Stop → (rest : Nodes) → Nodes

-- where the nodes stand
abbrev pub places : Nodes → List Place
places no_nodes = []
places (declares t inside rest) = (t.place ∷ places inside) ++ places rest
places (opens place n inside rest) = (place ∷ places inside) ++ places rest
places (branch place first other rest) = (place ∷ (places first ++ places other)) ++ places rest
places (loop place body rest) = (place ∷ places body) ++ places rest
places (stop place kind rest) = (place ∷ []) ++ places rest
