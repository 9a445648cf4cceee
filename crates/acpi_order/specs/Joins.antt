-- The join of machines: the union of their objects, of their links and of their bodies.
use Rattle.std.specs.Prelude.{◌≡◌, ◌↔◌, ℕ, List, [], ◌∷◌, Some}
use Rattle.acpi_name.specs.Names.{Segment}
use Rattle.acpi_space.specs.Lookups.{Lookup}
use Rattle.acpi_space.specs.Laws.{Among}
use Rattle.acpi_order.specs.Machines.{Machine, IsMachine}

-- the whole has the values of all the parts, and no other values
abbrev pub IsUnion : {X V : Type 0} → (X → Type 0) → (X → Lookup V) → Lookup V → Type 0
IsUnion {X} {V} Part values whole =
    (p : List Segment) (v : V) → (whole p ≡ Some v) ↔ ((x : X) × Part x × (values x p ≡ Some v))

-- the machine is the join of those that are parts
pub record IsJoin (Part : Machine → Type 0) (m : Machine) : Type 0 where
  pub objects_join : IsUnion Part (λ x. x.objects) m.objects
  pub links_join : IsUnion Part (λ x. x.links) m.links
  pub bodies_join : IsUnion Part (λ x. x.bodies) m.bodies

-- the machine of the DSDT with one of the SSDTs
pub record IsSingleLoad (depth : ℕ) (dsdt : List ℕ) (ssdts : List (List ℕ))
    (m : Machine) : Type 0 where
  pub ssdt : List ℕ
  pub one_of : Among ssdts ssdt
  pub load : IsMachine depth (dsdt ∷ ssdt ∷ []) m

-- no two of the parts have different values at one path
abbrev pub Agree : {X V : Type 0} → List X → (X → Lookup V) → Type 0
Agree {X} {V} parts values = (x y : X) (p : List Segment) (v w : V) → Among parts x → Among parts y
    → values x p ≡ Some v → values y p ≡ Some w → v ≡ w

pub record AllAgree (parts : List Machine) : Type 0 where
  pub objects_agree : Agree parts (λ x. x.objects)
  pub links_agree : Agree parts (λ x. x.links)
  pub bodies_agree : Agree parts (λ x. x.bodies)
