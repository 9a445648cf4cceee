-- What a load tells of independent SSDTs, and joins of lists of machines.
use Rattle.std.proofs.Common.{◌≡◌, ◌≢◌, ℕ, List, [], ◌∷◌, Option, Some, None, Result, Ok, Err, IfOk, IfErr, inl, inr, refl, sym, ap, subst, ◌∙◌}
use Rattle.std.specs.Option.{option_or}
use Rattle.acpi_name.specs.Names.{Segment}
use Rattle.acpi_space.specs.Lookups.{Lookup}
use Rattle.acpi_space.specs.Laws.{Among}
use Rattle.acpi_space.proofs.Elements.{one_some}
use Rattle.acpi_declare.specs.Loads.{HasNoLoad}
use Rattle.acpi_declare.specs.declared.fault.LoadFault.{LoadFault}
use Rattle.acpi_declare.specs.declared.fault.LoadFault.TheVariants.{At, Memory}
use Rattle.acpi_order.specs.Machines.{Machine, IsMachine}
use Rattle.acpi_order.specs.Joins.{IsUnion, IsJoin, IsSingleLoad, Agree, AllAgree}
use Rattle.acpi_order.specs.Orders.{AreReordered, LoadsToJoin, TellsOfJoin}
use Rattle.acpi_order.proofs.Joined.{load_exists, one_machine}
use Rattle.acpi_order.proofs.Orders.{one_join, joins_in_any_order, some_in_any_order, independent_in_any_order}

memory_only : (e : LoadFault) → (e ≢ Memory → ⊥) → e ≡ Memory
memory_only Memory f = refl
memory_only (At k reason) f = absurd (f (λ e. cc))

pub each_order_loads : (depth : ℕ) (dsdt : List ℕ) (ssdts given : List (List ℕ)) → AreReordered depth dsdt ssdts given → LoadsToJoin depth dsdt ssdts given
each_order_loads depth dsdt ssdts given h =
    let r = load_exists depth dsdt given (some_in_any_order depth dsdt ssdts given h.order h.some) (independent_in_any_order depth dsdt ssdts given h.order h.independent) in
    record {
      machine = r.0;
      loads = r.1;
      joins = joins_in_any_order depth dsdt ssdts given r.0 h.some h.order h.independent r.1;
      only = λ m loads. one_machine depth (dsdt ∷ given) m r.0 loads r.1;
    }

-- what is true of any machine to which the tables load, and of the join, is told
pub told_of_join : {V : Type 0} (Says : (Machine → Type 0) → V → Type 0) (Loads : V → Type 0) (depth : ℕ) (dsdt : List ℕ) (given : List (List ℕ)) (result : Result V LoadFault)
    → ((Part : Machine → Type 0) (m : Machine) (v : V) → IsMachine depth (dsdt ∷ given) m → IsJoin Part m → Loads v → Says Part v)
    → IfOk result Loads → IfErr result (λ e. e ≢ Memory → HasNoLoad depth (dsdt ∷ given)) → TellsOfJoin Says depth dsdt given result
told_of_join Says Loads depth dsdt given (Ok v) says ok err ssdts h =
    let r = each_order_loads depth dsdt ssdts given h in says (IsSingleLoad depth dsdt ssdts) r.machine v r.loads r.joins ok
told_of_join Says Loads depth dsdt given (Err e) says ok err ssdts h =
    let r = each_order_loads depth dsdt ssdts given h in memory_only e (λ other. err other r.loads.placements r.loads.listings)

pub load_tells_join : (depth : ℕ) (dsdt : List ℕ) (given : List (List ℕ)) (told : Result Machine LoadFault)
    → IfOk told (λ m. IsMachine depth (dsdt ∷ given) m) → IfErr told (λ e. e ≢ Memory → HasNoLoad depth (dsdt ∷ given))
    → TellsOfJoin IsJoin depth dsdt given told
load_tells_join depth dsdt given told =
    told_of_join IsJoin (IsMachine depth (dsdt ∷ given)) depth dsdt given told
    (λ Part m v loads joins is. subst (IsJoin Part) (one_machine depth (dsdt ∷ given) m v loads is) joins)

-- ---- the first value of several maps

abbrev first_value : {X V : Type 0} → (X → Lookup V) → List X → Lookup V
first_value values [] p = None
first_value values (x ∷ xs) p = option_or (values x p) (first_value values xs p)

module _ {X V : Type 0} (values : X → Lookup V) where
  first_at : (y : X) (ys : List X) (p : List Segment) (v : V) → (first_value values ys p ≡ Some v → (z : X) × Among ys z × (values z p ≡ Some v)) → (a : Option V)
      → values y p ≡ a → option_or a (first_value values ys p) ≡ Some v → (z : X) × Among (y ∷ ys) z × (values z p ≡ Some v)
  first_at y ys p v rest None at e = let r = rest e in (r.0, inr r.1, r.2)
  first_at y ys p v rest (Some a) at e = (y, inl refl, at ∙ e)

  first_is : (ys : List X) (p : List Segment) (v : V) → first_value values ys p ≡ Some v → (z : X) × Among ys z × (values z p ≡ Some v)
  first_is [] p v e = cc
  first_is (y ∷ ys) p v e = first_at y ys p v (first_is ys p v) (values y p) refl e

  or_is_some : (a b : Option V) → ((v : V) × (b ≡ Some v)) → (v : V) × (option_or a b ≡ Some v)
  or_is_some None b h = h
  or_is_some (Some a) b h = (a, refl)

  some_first : (ys : List X) (y : X) (p : List Segment) (v : V) → Among ys y → values y p ≡ Some v → (w : V) × (first_value values ys p ≡ Some w)
  some_first [] y p v m e = absurd m
  some_first (z ∷ zs) y p v (inl is) e = let e₁ : values z p ≡ Some v = subst (λ (x : X). values x p ≡ Some v) (sym is) e in (v, ap (λ a. option_or a (first_value values zs p)) e₁)
  some_first (z ∷ zs) y p v (inr m) e = or_is_some (values z p) (first_value values zs p) (some_first zs y p v m e)

  first_joins : (parts : List X) → Agree parts values → IsUnion (Among parts) values (first_value values parts)
  first_joins parts agree p v = (
    (λ e. first_is parts p v e),
    (λ r.
        let f = some_first parts r.0 p v r.1 r.2 in
        let z = first_is parts p f.0 f.1 in
        f.1 ∙ ap (λ (u : V). Some u) (agree z.0 r.0 p f.0 v z.1 r.1 z.2 r.2)),
  )

  joined_agree : (parts : List X) (whole : Lookup V) → IsUnion (Among parts) values whole → Agree parts values
  joined_agree parts whole h x y p v w mx my ex ey = one_some v w (sym ((h p v).1 (x, mx, ex)) ∙ (h p w).1 (y, my, ey))

pub agreeing_have_join : (parts : List Machine) → AllAgree parts → (m : Machine) × IsJoin (Among parts) m
agreeing_have_join parts h = (
  record { objects = first_value (λ x. x.objects) parts; links = first_value (λ x. x.links) parts; bodies = first_value (λ x. x.bodies) parts },
  record {
    objects_join = first_joins (λ x. x.objects) parts h.objects_agree;
    links_join = first_joins (λ x. x.links) parts h.links_agree;
    bodies_join = first_joins (λ x. x.bodies) parts h.bodies_agree;
  },
)

pub joined_all_agree : (parts : List Machine) (m : Machine) → IsJoin (Among parts) m → AllAgree parts
joined_all_agree parts m h = record {
  objects_agree = joined_agree (λ x. x.objects) parts m.objects h.objects_join;
  links_agree = joined_agree (λ x. x.links) parts m.links h.links_join;
  bodies_agree = joined_agree (λ x. x.bodies) parts m.bodies h.bodies_join;
}

pub one_join_of : (parts : List Machine) (m n : Machine) → IsJoin (Among parts) m → IsJoin (Among parts) n → m ≡ n
one_join_of parts m n h k = one_join (Among parts) m n h k
