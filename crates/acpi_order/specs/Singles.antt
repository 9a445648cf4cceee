-- What the load of a DSDT with one SSDT tells, and which Externals another SSDT satisfies, whether or not the tables
-- are independent (ACPI 6.5, 5.3 and 20.2.5).
use Rattle.std.specs.Prelude.{◌≡◌, ◌≢◌, ◌↔◌, ◌⊎◌, ℕ, zero, suc, false, List, [], ◌∷◌, Some, IsTrue}
use Rattle.std.specs.declared.cmp.Ordering.{Ordering}
use Rattle.std.specs.Ordering.{nat_cmp, ordering_then}
use Rattle.std.specs.List.Sorted.{IsStrictlySortedBy}
use Rattle.acpi_name.specs.Names.{Segment}
use Rattle.acpi_name.specs.Paths.{path_cmp}
use Rattle.acpi_space.specs.Laws.{Among}
use Rattle.acpi_tree.specs.Objects.{ObjectTree}
use Rattle.acpi_declare.specs.Namespace.{Namespace}
use Rattle.acpi_declare.specs.Listing.{objects_of}
use Rattle.acpi_declare.specs.Loads.{AreListings}
use Rattle.acpi_declare.specs.Predefined.{predefined}
use Rattle.acpi_order.specs.Bodies.{Method, methods_of}
use Rattle.acpi_order.specs.Machines.{Machine, IsMachine}
use Rattle.acpi_order.specs.Misses.{Listing, objects_of_first, objects_of_both, IsAwaiting, IsMiss}
use Rattle.acpi_order.specs.Independent.{AreSingleListings, is_method_of}
use Rattle.acpi_order.specs.Verdicts.{AreListingsAt}

-- the path is one of those that the other SSDT declares, and was missed, or a method is awaited there and the other's
-- object is none of so many arguments
abbrev pub IsUnmetBy : (missed : List (List Segment)) (awaited : List (ℕ × List Segment × ℕ))
    (declares : List (List Segment)) (objects : Namespace) → List Segment → Type 0
IsUnmetBy missed awaited declares objects p = Among declares p
    × (Among missed p
    ⊎ ((k : ℕ) × (args : ℕ) × (o : ObjectTree) × Among awaited (k, p, args) × (objects p ≡ Some o)
    × (is_method_of o args ≡ false)))

-- by table, then path, then count
abbrev pub awaited_cmp : ℕ × List Segment × ℕ → ℕ × List Segment × ℕ → Ordering
awaited_cmp a b =
    ordering_then (nat_cmp a.0 b.0) (ordering_then (path_cmp a.1 b.1) (nat_cmp a.2 b.2))

-- a body of the table awaits a method of so many arguments at the path
abbrev pub IsAwaitedInTable : ℕ → Namespace → Listing → List Segment → ℕ → Type 0
IsAwaitedInTable depth objects t p args =
    (m : Method) × Among (methods_of t) m × IsAwaiting depth objects m p args

-- .. a body of the DSDT, table 0, or of the SSDT, table 1
abbrev pub IsAwaitedBy : ℕ → Listing → Listing → ℕ → List Segment → ℕ → Type 0
IsAwaitedBy depth first t zero p args =
    IsAwaitedInTable depth (objects_of_both first t) first p args
IsAwaitedBy depth first t (suc zero) p args =
    IsAwaitedInTable depth (objects_of_both first t) t p args
IsAwaitedBy depth first t (suc (suc k)) p args = ⊥

-- the machine of the load with the SSDT, the paths that the SSDT declares and those that the load missed, both in path
-- order, and the open misses by table, path and count
pub record IsSingle (depth : ℕ) (dsdt ssdt : List ℕ) (m : Machine)
    (defined missed : List (List Segment)) (awaited : List (ℕ × List Segment × ℕ)) : Type 0 where
  pub load : IsMachine depth (dsdt ∷ ssdt ∷ []) m
  pub first : Listing
  pub t : Listing
  pub listings : AreSingleListings depth dsdt ssdt first t
  pub defined_ascend : IsStrictlySortedBy path_cmp defined
  pub defined_are : (p : List Segment)
      → Among defined p ↔ ((o : ObjectTree) × (objects_of t p ≡ Some o))
  pub missed_ascend : IsStrictlySortedBy path_cmp missed
  pub missed_are : (p : List Segment) → Among missed p ↔ IsMiss depth first t p
  pub awaited_ascend : IsStrictlySortedBy awaited_cmp awaited
  pub awaited_are : (k : ℕ) (p : List Segment) (args : ℕ)
      → Among awaited (k, p, args) ↔ IsAwaitedBy depth first t k p args

-- ---- satisfied Externals

module _ (depth : ℕ) (dsdt : List ℕ) (ssdts : List (List ℕ)) where
  -- a body of the user awaits the method: the DSDT's, user 0, in the load of the DSDT alone, or an SSDT's in its
  -- single load
  abbrev pub IsAwaitedOf : ℕ → List Segment → ℕ → Type 0
  IsAwaitedOf zero p args =
      (first : Listing) × AreListings depth 0 predefined (dsdt ∷ []) (first ∷ [])
      × IsAwaitedInTable depth (objects_of_first first) first p args
  IsAwaitedOf (suc i) p args = (first : Listing) × (t : Listing)
      × AreListingsAt depth dsdt ssdts (suc i) first t
      × IsAwaitedInTable depth (objects_of_both first t) t p args

  -- .. and the definer, another SSDT, declares such a method there
  abbrev pub IsSatisfied : (user definer : ℕ) → List Segment → Type 0
  IsSatisfied user definer p = (user ≢ definer) × (args : ℕ) × IsAwaitedOf user p args
      × (first : Listing) × (t : Listing) × AreListingsAt depth dsdt ssdts definer first t
      × (o : ObjectTree) × (objects_of t p ≡ Some o) × IsTrue (is_method_of o args)
