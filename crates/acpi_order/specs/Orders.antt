-- Independent SSDTs in any order (ACPI 6.5, 5.2.11 and 5.3).
use Rattle.std.specs.Prelude.{◌≡◌, ◌≢◌, ◌↔◌, ℕ, List, [], ◌∷◌, Some, Result, MatchResult, IsPermutation}
use Rattle.acpi_name.specs.Names.{Segment}
use Rattle.acpi_space.specs.Lookups.{Lookup}
use Rattle.acpi_declare.specs.Links.{Links}
use Rattle.acpi_declare.specs.Namespace.{Namespace}
use Rattle.acpi_declare.specs.declared.fault.LoadFault.{LoadFault}
use Rattle.acpi_declare.specs.declared.fault.LoadFault.TheVariants.{Memory}
use Rattle.acpi_body.specs.Bodies.{BodyTree}
use Rattle.acpi_order.specs.Machines.{Machine, IsMachine}
use Rattle.acpi_order.specs.Joins.{IsUnion, IsJoin, IsSingleLoad}
use Rattle.acpi_order.specs.Independent.{IsIndependent}

-- the SSDTs, of which there is one at least, are independent over the DSDT, and are given in this order
pub record AreReordered (depth : ℕ) (dsdt : List ℕ) (ssdts given : List (List ℕ)) : Type 0 where
  pub some : ssdts ≢ []
  pub order : IsPermutation ssdts given
  pub independent : IsIndependent depth dsdt ssdts

-- the SSDTs in this order load over the DSDT, and only to the join of the single loads
pub record LoadsToJoin (depth : ℕ) (dsdt : List ℕ) (ssdts given : List (List ℕ)) : Type 0 where
  pub machine : Machine
  pub loads : IsMachine depth (dsdt ∷ given) machine
  pub joins : IsJoin (IsSingleLoad depth dsdt ssdts) machine
  pub only : (m : Machine) → IsMachine depth (dsdt ∷ given) m → m ≡ machine

-- .. in each order
abbrev pub EachOrderLoadsToJoin : ℕ → List ℕ → List (List ℕ) → Type 0
EachOrderLoadsToJoin depth dsdt ssdts =
    (given : List (List ℕ)) → IsPermutation ssdts given → LoadsToJoin depth dsdt ssdts given

-- the objects and links are those of the join of the parts
pub record AreJoined (Part : Machine → Type 0) (objects : Namespace)
    (links : Lookup Links) : Type 0 where
  pub objects_join : IsUnion Part (λ x. x.objects) objects
  pub links_join : IsUnion Part (λ x. x.links) links

-- .. and the body at the path is the one that parts have there
pub record IsJoinAt (Part : Machine → Type 0) (path : List Segment) (m : Machine) : Type 0 where
  pub joined : AreJoined Part m.objects m.links
  pub body_joins : (b : BodyTree)
      → (m.bodies path ≡ Some b) ↔ ((x : Machine) × Part x × (x.bodies path ≡ Some b))

-- What a load of SSDTs in this order answers where they are independent: what is said of the join of their single
-- loads, or that memory is refused.
abbrev pub TellsOfJoin : {V : Type 0} → ((Machine → Type 0) → V → Type 0) → ℕ → List ℕ
    → List (List ℕ) → Result V LoadFault → Type 0
TellsOfJoin Says depth dsdt given result =
    (ssdts : List (List ℕ)) → AreReordered depth dsdt ssdts given
    → MatchResult result (Says (IsSingleLoad depth dsdt ssdts)) (λ e. e ≡ Memory)
