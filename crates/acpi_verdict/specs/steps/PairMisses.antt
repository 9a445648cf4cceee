-- What the load of a DSDT with an SSDT missed and awaits, of the paths that are asked for.
use Rattle.std.specs.Prelude.{◌≡◌, ◌⊎◌, ◌↔◌, ℕ, Bool, false, List, [], ◌∷◌, IsTrue, Some}
use Rattle.std.specs.FinMap.{empty, get}
use Rattle.acpi_name.specs.Names.{Segment}
use Rattle.acpi_space.specs.Spaces.{PathMap, is_defined}
use Rattle.acpi_space.specs.Wanted.{Wants}
use Rattle.acpi_declare.specs.Declaring.{State}
use Rattle.acpi_declare.specs.Loads.{AreListings}
use Rattle.acpi_declare.specs.Predefined.{predefined}
use Rattle.acpi_body.specs.steps.Gathering.{Paths, Grows}
use Rattle.acpi_order.specs.Independent.{AreSingleListings}
use Rattle.acpi_order.specs.Misses.{Listing, objects_of_first, objects_of_both, IsMiss, IsAwaited}
use Rattle.acpi_order.specs.Singles.{IsAwaitedInTable}
use Rattle.acpi_verdict.specs.declared.pair_misses.PairMisses.{PairMisses}
use Rattle.acpi_verdict.specs.declared.pair_misses.DsdtPart as code
use Rattle.acpi_verdict.specs.declared.misses.Misses.{Misses}
use Rattle.acpi_verdict.specs.steps.Misses.{AreMisses, IsMissedScope}

-- what the SSDT's Scope terms, links and bodies missed and await, and what the DSDT's links and bodies did
pub record PairTree : Type 0 where
  pub own : Misses
  pub under : Misses

abbrev pub part_misses : code.DsdtPart → Misses
part_misses (code.TheVariants.Alone t) = t.now
part_misses (code.TheVariants.Again t) = t

abbrev pub pair_view : PairMisses → PairTree
pair_view t = record { own = t.own; under = part_misses t.under }

-- what the DSDT missed alone, where the SSDT is said to declare none of it; else what it misses with the SSDT
abbrev pub IsDsdtPart : Wants → ℕ → State → Misses → Bool → State → Misses → Type 0
IsDsdtPart wanted depth dsdt alone affected s now =
    ((affected ≡ false) × (now ≡ alone)) ⊎ AreMisses wanted depth s.objects dsdt empty now

pub record ArePairMisses (wanted : Wants) (depth : ℕ) (dsdt : State) (alone : Misses)
    (affected : Bool) (l : State) (s : PairTree) : Type 0 where
  pub scopes : Paths
  pub scopes_are : Grows empty scopes (λ p. IsMissedScope l.notes p × IsTrue (wanted p))
  pub own : AreMisses wanted depth l.objects l scopes s.own
  pub under : IsDsdtPart wanted depth dsdt alone affected l s.under

-- ---- what that says of the tables

abbrev pub IsMissedIn : PairTree → List Segment → Type 0
IsMissedIn s p = IsTrue (is_defined s.own.missed p) ⊎ IsTrue (is_defined s.under.missed p)

abbrev pub IsAwaitedIn : PairTree → List Segment → ℕ → Type 0
IsAwaitedIn s p args = (get s.own.awaited p ≡ Some args) ⊎ (get s.under.awaited p ≡ Some args)

-- what the single load of the SSDT missed and awaits, of the wanted paths
pub record AreLoadMisses (wanted : Wants) (depth : ℕ) (dsdt ssdt : List ℕ)
    (s : PairTree) : Type 0 where
  pub first : Listing
  pub t : Listing
  pub listings : AreSingleListings depth dsdt ssdt first t
  pub missed_are : (p : List Segment)
      → IsMissedIn s p ↔ (IsMiss depth first t p × IsTrue (wanted p))
  pub awaited_are : (p : List Segment) (args : ℕ)
      → IsAwaitedIn s p args ↔ (IsAwaited depth first t p args × IsTrue (wanted p))
  pub own_awaited : (p : List Segment) (args : ℕ)
      → (get s.own.awaited p ≡ Some args)
      ↔ (IsAwaitedInTable depth (objects_of_both first t) t p args × IsTrue (wanted p))

-- what bodies of the DSDT await alone, of the wanted paths
pub record AreAwaitsAlone (wanted : Wants) (depth : ℕ) (dsdt : List ℕ)
    (ws : PathMap ℕ) : Type 0 where
  pub first : Listing
  pub listings : AreListings depth 0 predefined (dsdt ∷ []) (first ∷ [])
  pub awaits_are : (p : List Segment) (args : ℕ)
      → (get ws p ≡ Some args)
      ↔ (IsAwaitedInTable depth (objects_of_first first) first p args × IsTrue (wanted p))
