-- Machines that are put together, one after another.
use Rattle.std.proofs.Common.{◌≡◌, ◌⊎◌, ◌↔◌, inl, inr, ℕ, ◌+◌, ◌≤◌, Bool, true, false, true≢false, List, [], ◌∷◌, map, length, drop, Some, None, is_some, refl, sym, ap, subst}
use Rattle.std.proofs.lemmas.List.{drop_all}
use Rattle.acpi_name.specs.Names.{Segment}
use Rattle.acpi_space.specs.Laws.{Among}
use Rattle.acpi_space.specs.Lookups.{Lookup, nothing}
use Rattle.acpi_order.specs.Machines.{Machine}
use Rattle.acpi_order.proofs.Told.{joined_all_agree}
use Rattle.acpi_order.specs.Joins.{IsUnion, IsJoin, Agree, AllAgree}
use Rattle.acpi_singles.specs.steps.Joining.{Gains, Clash, JoinsMachine}
use Rattle.acpi_singles.proofs.JoinedValues.{Joining, joining_none, joining_more, joined}

-- one of the machines has the value
abbrev pub InParts : {V : Type 0} → (Machine → Lookup V) → List Machine → List Segment → V → Type 0
InParts values xs p v = (x : Machine) × Among xs x × (values x p ≡ Some v)

module _ {V : Type 0} (values : Machine → Lookup V) where
  split : (x : Machine) (xs : List Machine) (p : List Segment) (v : V) → InParts values (x ∷ xs) p v ↔ ((values x p ≡ Some v) ⊎ InParts values xs p v)
  split x xs p v = (λ h. to h.0 h.1 h.2, from)
    where
      to : (y : Machine) → (x ≡ y) ⊎ Among xs y → values y p ≡ Some v → (values x p ≡ Some v) ⊎ InParts values xs p v
      to y (inl e) h = inl (subst (λ (z : Machine). values z p ≡ Some v) (sym e) h)
      to y (inr i) h = inr (y, i, h)

      from : (values x p ≡ Some v) ⊎ InParts values xs p v → InParts values (x ∷ xs) p v
      from (inl h) = (x, inl refl, h)
      from (inr h) = (h.0, inr h.1, h.2)

  never : (p : List Segment) (v : V) → nothing {V = V} p ≡ Some v → ⊥
  never p v e = cc

  to_union : (all : List Machine) (whole : Lookup V) → Joining nothing whole (InParts values all) (InParts values []) → IsUnion (Among all) values whole
  to_union all whole j p v = (λ e. by ((gains p v).0 e), λ h. (gains p v).1 (inr h))
    where
      gains : Gains nothing whole (InParts values all)
      gains = joined nothing (InParts values all) whole (InParts values []) j (λ q u h. h.1)

      by : (nothing {V = V} p ≡ Some v) ⊎ InParts values all p v → InParts values all p v
      by (inl e) = absurd (never p v e)
      by (inr h) = h

  disagree : (all xs : List Machine) (x : Machine) (whole : Lookup V) → Joining nothing whole (InParts values all) (InParts values (x ∷ xs)) → Clash whole (values x) → Agree all values → ⊥
  disagree all xs x whole j c agree = by (j.only c.path c.value c.here)
    where
      other : InParts values all c.path c.other
      other = j.within c.path c.other (x, inl refl, c.there)

      by : (nothing {V = V} c.path ≡ Some c.value) ⊎ InParts values all c.path c.value → ⊥
      by (inl e) = never c.path c.value e
      by (inr h) = c.differ (agree h.0 other.0 c.path c.value c.other h.1 other.1 h.2 other.2)

-- all parts, the parts that are left, and the machine that has the others
pub record JoiningMachines (all rest : List Machine) (m : Machine) : Type 0 where
  pub objects : Joining nothing m.objects (InParts (λ x. x.objects) all) (InParts (λ x. x.objects) rest)
  pub links : Joining nothing m.links (InParts (λ x. x.links) all) (InParts (λ x. x.links) rest)
  pub bodies : Joining nothing m.bodies (InParts (λ x. x.bodies) all) (InParts (λ x. x.bodies) rest)

at_first : {V : Type 0} (values : Machine → Lookup V) (all : List Machine) (now : Lookup V) → now ≡ nothing → Joining nothing now (InParts values all) (InParts values all)
at_first values all now e = rw e (joining_none nothing (InParts values all))

pub no_machine : (all : List Machine) (m : Machine) → m.objects ≡ nothing → m.links ≡ nothing → m.bodies ≡ nothing → JoiningMachines all all m
no_machine all m o l b = record {
  objects = at_first (λ x. x.objects) all m.objects o;
  links = at_first (λ x. x.links) all m.links l;
  bodies = at_first (λ x. x.bodies) all m.bodies b;
}

one_more_part : {V : Type 0} (values : Machine → Lookup V) (all xs : List Machine) (x : Machine) (now new : Lookup V) → Joining nothing now (InParts values all) (InParts values (x ∷ xs))
    → Gains now new (λ p v. values x p ≡ Some v) → Joining nothing new (InParts values all) (InParts values xs)
one_more_part values all xs x now new j gains =
    joining_more nothing (InParts values all) now new (InParts values (x ∷ xs)) (λ p v. values x p ≡ Some v) (InParts values xs) j gains (split values x xs)

pub one_machine_more : (all xs : List Machine) (x m n : Machine) → JoiningMachines all (x ∷ xs) m → JoinsMachine m n x true → JoiningMachines all xs n
one_machine_more all xs x m n j h = record {
  objects = one_more_part (λ y. y.objects) all xs x m.objects n.objects j.objects h.0;
  links = one_more_part (λ y. y.links) all xs x m.links n.links j.links h.1;
  bodies = one_more_part (λ y. y.bodies) all xs x m.bodies n.bodies j.bodies h.2;
}

pub all_machines : (all : List Machine) (m : Machine) → JoiningMachines all [] m → IsJoin (Among all) m
all_machines all m j = record {
  objects_join = to_union (λ x. x.objects) all m.objects j.objects;
  links_join = to_union (λ x. x.links) all m.links j.links;
  bodies_join = to_union (λ x. x.bodies) all m.bodies j.bodies;
}

pub machines_disagree : (all xs : List Machine) (x m n : Machine) → JoiningMachines all (x ∷ xs) m → JoinsMachine m n x false → AllAgree all → ⊥
machines_disagree all xs x m n j (inl c) agree = disagree (λ y. y.objects) all xs x m.objects j.objects c agree.objects_agree
machines_disagree all xs x m n j (inr (inl c)) agree = disagree (λ y. y.links) all xs x m.links j.links c agree.links_agree
machines_disagree all xs x m n j (inr (inr c)) agree = disagree (λ y. y.bodies) all xs x m.bodies j.bodies c agree.bodies_agree

-- ---- the parts as they stand in a list

module _ {T : Type 0} (view : T → Machine) (xs : List T) (i : ℕ) where
  module _ (x : T) (m n : Machine) (here : drop i xs ≡ x ∷ drop (i + 1) xs) (j : JoiningMachines (map view xs) (map view (drop i xs)) m) where
    at_part : JoiningMachines (map view xs) (view x ∷ map view (drop (i + 1) xs)) m
    at_part = subst (λ (ys : List T). JoiningMachines (map view xs) (map view ys) m) here j

    pub part_joined : (b : Bool) → b ≡ true → JoinsMachine m n (view x) b → JoiningMachines (map view xs) (map view (drop (i + 1) xs)) n
    part_joined b e h = one_machine_more (map view xs) (map view (drop (i + 1) xs)) (view x) m n at_part (subst (JoinsMachine m n (view x)) e h)

    pub part_clashes : (b : Bool) → b ≡ false → JoinsMachine m n (view x) b → AllAgree (map view xs) → ⊥
    part_clashes b e h = machines_disagree (map view xs) (map view (drop (i + 1) xs)) (view x) m n at_part (subst (JoinsMachine m n (view x)) e h)

  pub parts_joined : (m : Machine) → JoiningMachines (map view xs) (map view (drop i xs)) m → length xs ≤ i → IsJoin (Among (map view xs)) m
  parts_joined m j end = all_machines (map view xs) m (subst (λ (ys : List T). JoiningMachines (map view xs) (map view ys) m) (drop_all i xs end) j)

-- a join is there only of machines that agree
pub some_join : {A : Type 0} (x : A) (parts : List Machine) (m : Machine) (Empty : Type 0) → (Empty → ⊥) → IsJoin (Among parts) m → (Some x ≡ None) ↔ (Empty ⊎ (AllAgree parts → ⊥))
some_join {A} x parts m Empty some j = (λ e. absurd (true≢false (ap is_some e)), back)
  where
    back : Empty ⊎ (AllAgree parts → ⊥) → Some x ≡ None
    back (inl e) = absurd (some e)
    back (inr f) = absurd (f (joined_all_agree parts m j))
