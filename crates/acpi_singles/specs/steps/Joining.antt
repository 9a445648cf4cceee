-- Values by path that are put together, part after part.
use Rattle.std.specs.Prelude.{◌≡◌, ◌≢◌, ◌⊎◌, ◌↔◌, Bool, true, false, List, Some}
use Rattle.acpi_name.specs.Names.{Segment}
use Rattle.acpi_space.specs.Lookups.{Lookup}
use Rattle.acpi_order.specs.Machines.{Machine}

-- the values have become those that were there, and those of P
abbrev pub Gains : {V : Type 0} → Lookup V → Lookup V → (List Segment → V → Type 0) → Type 0
Gains {V} old new P = (p : List Segment) (v : V) → (new p ≡ Some v) ↔ ((old p ≡ Some v) ⊎ P p v)

-- one value is added; or another one stands at its path
abbrev pub JoinsValue : {V : Type 0} → Lookup V → Lookup V → List Segment → V → Bool → Type 0
JoinsValue old new p v true = Gains old new (λ q u. (p ≡ q) × (v ≡ u))
JoinsValue {V} old new p v false = (w : V) × (old p ≡ Some w) × (w ≢ v)

-- they have different values at some path
pub record Clash {V : Type 0} (values others : Lookup V) : Type 0 where
  pub path : List Segment
  pub value : V
  pub other : V
  pub here : values path ≡ Some value
  pub there : others path ≡ Some other
  pub differ : value ≢ other

-- the values of a part are added; or one of them differs from what is there
abbrev pub JoinsPart : {V : Type 0} → Lookup V → Lookup V → Lookup V → Bool → Type 0
JoinsPart old new part true = Gains old new (λ p v. part p ≡ Some v)
JoinsPart old new part false = Clash old part

-- the same of machines
abbrev pub JoinsMachine : Machine → Machine → Machine → Bool → Type 0
JoinsMachine old new part true = JoinsPart old.objects new.objects part.objects true
    × JoinsPart old.links new.links part.links true
    × JoinsPart old.bodies new.bodies part.bodies true
JoinsMachine old new part false =
    Clash old.objects part.objects ⊎ Clash old.links part.links ⊎ Clash old.bodies part.bodies
