-- What a load tells of independent SSDTs.
use Rattle.std.proofs.Common.{◌≡◌, ◌≢◌, ◌↔◌, ℕ, List, ◌∷◌, map, Option, Some, Result, refl, sym, ap, subst, ◌∙◌}
use Rattle.std.specs.Prelude.{IfOk, IfErr}
use Rattle.acpi_name.specs.Names.{Segment}
use Rattle.acpi_space.specs.Lookups.{Lookup}
use Rattle.acpi_declare.specs.Links.{Links}
use Rattle.acpi_declare.specs.Loads.{IsLoad, HasNoLoad}
use Rattle.acpi_declare.specs.Namespace.{Namespace}
use Rattle.acpi_declare.specs.declared.fault.LoadFault.{LoadFault}
use Rattle.acpi_declare.specs.declared.fault.LoadFault.TheVariants.{Memory}
use Rattle.acpi_body.specs.Bodies.{BodyTree}
use Rattle.acpi_order.specs.Bodies.{all_methods, bodies_at}
use Rattle.acpi_order.specs.Machines.{Machine, IsMachine}
use Rattle.acpi_order.specs.Joins.{IsUnion, IsJoin}
use Rattle.acpi_order.specs.Orders.{AreJoined, IsJoinAt, TellsOfJoin}
use Rattle.acpi_order.proofs.Joined.{one_machine}
use Rattle.acpi_order.proofs.ReadBodies.{body_of, are_bodies}
use Rattle.acpi_order.proofs.Told.{told_of_join}
use Rattle.acpi_machine.specs.MachineView.{HasMachine}
use Rattle.acpi_machine.specs.OneBody.{IsMachineAt}

-- what tables declare are the objects and links of the machine to which they load
pub declared_have_machine : (depth : ℕ) (tables : List (List ℕ)) (objects : Namespace) (links : Lookup Links) → IsLoad depth tables objects links → HasMachine depth tables objects links
declared_have_machine depth tables objects links h =
    let methods = all_methods h.placements in
    let trees = map (body_of depth objects) methods in (
      record { objects = objects; links = links; bodies = bodies_at methods trees },
      record {
        placements = h.placements;
        listings = h.listings;
        objects_are = h.objects_are;
        links_are = h.links_are;
        trees = trees;
        read = are_bodies depth objects methods;
        bodies_are = refl;
      },
      refl,
      refl,
    )

module _ (Part : Machine → Type 0) (m : Machine) (joins : IsJoin Part m) where
  joined : (objects : Namespace) (links : Lookup Links) → m.objects ≡ objects → m.links ≡ links → AreJoined Part objects links
  joined objects links objects_are links_are = record {
    objects_join = subst (IsUnion Part (λ x. x.objects)) objects_are joins.objects_join;
    links_join = subst (IsUnion Part (λ x. x.links)) links_are joins.links_join;
  }

  joined_at : (path : List Segment) (n : Machine) → n.objects ≡ m.objects → n.links ≡ m.links → n.bodies path ≡ m.bodies path → IsJoinAt Part path n
  joined_at path n objects_are links_are body_is = record {
    joined = joined n.objects n.links (sym objects_are) (sym links_are);
    body_joins = λ b. (λ e. (joins.bodies_join path b).0 (sym body_is ∙ e), λ r. body_is ∙ (joins.bodies_join path b).1 r);
  }

module _ {V : Type 0} (depth : ℕ) (dsdt : List ℕ) (given : List (List ℕ)) (result : Result V LoadFault) (none : IfErr result (λ e. e ≢ Memory → HasNoLoad depth (dsdt ∷ given))) where
  pub tells_join : (view : V → Machine) → IfOk result (λ v. IsMachine depth (dsdt ∷ given) (view v)) → TellsOfJoin (λ Part v. IsJoin Part (view v)) depth dsdt given result
  tells_join view ok =
      told_of_join (λ Part v. IsJoin Part (view v)) (λ v. IsMachine depth (dsdt ∷ given) (view v)) depth dsdt given result
      (λ Part m v loads joins is. subst (IsJoin Part) (one_machine depth (dsdt ∷ given) m (view v) loads is) joins) ok none

  pub tells_joined : (objects : V → Namespace) (links : V → Lookup Links) → IfOk result (λ v. IsLoad depth (dsdt ∷ given) (objects v) (links v))
      → TellsOfJoin (λ Part v. AreJoined Part (objects v) (links v)) depth dsdt given result
  tells_joined objects links ok =
      told_of_join (λ Part v. AreJoined Part (objects v) (links v)) (λ v. IsLoad depth (dsdt ∷ given) (objects v) (links v)) depth dsdt given result
      (λ Part m v loads joins is.
      let n = declared_have_machine depth (dsdt ∷ given) (objects v) (links v) is in
      let same : m ≡ n.0 = one_machine depth (dsdt ∷ given) m n.0 loads n.1 in
      joined Part m joins (objects v) (links v) (ap (λ (x : Machine). x.objects) same ∙ n.2) (ap (λ (x : Machine). x.links) same ∙ n.3))
      ok none

  pub tells_join_at : (path : List Segment) (view : V → Machine) → IfOk result (λ v. IsMachineAt depth (dsdt ∷ given) path (view v))
      → TellsOfJoin (λ Part v. IsJoinAt Part path (view v)) depth dsdt given result
  tells_join_at path view ok =
      told_of_join (λ Part v. IsJoinAt Part path (view v)) (λ v. IsMachineAt depth (dsdt ∷ given) path (view v)) depth dsdt given result
      (λ Part m v loads joins is.
      let same : is.whole ≡ m = one_machine depth (dsdt ∷ given) is.whole m is.loads loads in
      joined_at Part m joins path (view v) (is.objects_are ∙ ap (λ (x : Machine). x.objects) same) (is.links_are ∙ ap (λ (x : Machine). x.links) same)
      (is.body_is ∙ ap (λ (x : Machine). x.bodies path) same))
      ok none
