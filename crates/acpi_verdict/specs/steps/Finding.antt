-- What the loads of SSDTs over a DSDT tell of one another.
use Rattle.std.specs.Prelude.{◌≡◌, ◌≢◌, ◌⊎◌, ◌↔◌, ℕ, ◌≤◌, true, false, List, ◌++◌, Some, IsTrue}
use Rattle.std.specs.FinMap.{get, entries}
use Rattle.std.specs.List.Sorted.{IsStrictlySortedBy}
use Rattle.acpi_name.specs.Names.{Segment}
use Rattle.acpi_space.specs.Laws.{Among}
use Rattle.acpi_space.specs.Spaces.{PathMap, is_defined}
use Rattle.acpi_order.specs.Independent.{AreSingleListings}
use Rattle.acpi_order.specs.Misses.{Listing, objects_of_both, IsMiss, IsAwaited}
use Rattle.acpi_order.specs.Singles.{IsAwaitedInTable, IsSatisfied}
use Rattle.acpi_order.specs.Verdicts.{IsSsdt}
use Rattle.acpi_verdict.specs.declared.definers.Definer.{Definer}
use Rattle.acpi_verdict.specs.declared.definers.Definers.{Definers}
use Rattle.acpi_verdict.specs.declared.findings.PairFindings.{PairFindings}
use Rattle.acpi_verdict.specs.declared.verdicts.Satisfied.{Satisfied}
use Rattle.acpi_verdict.specs.SatisfiedView.{satisfied_cmp, AreSatisfied}
use Rattle.acpi_verdict.specs.steps.Clashing.{Clashes, IsLeastOf, Offers}
use Rattle.acpi_verdict.specs.steps.Defining.{takes, IsNoted}
use Rattle.acpi_verdict.specs.steps.PairMisses.{PairTree}
use Rattle.acpi_verdict.specs.declared.misses.Misses.{Misses}

-- ---- clashes of a searcher

-- the first SSDT that declares the path is of number j, and not the searcher, number i; and P holds of it
abbrev pub IsFirstOther : PathMap Definer → ℕ → (List Segment → Definer → Type 0) → Clashes
IsFirstOther firsts number P i j p =
    (number ≡ i) × (x : Definer) × (get firsts p ≡ Some x) × (x.number ≡ j) × (j ≢ i) × P p x

-- the path was missed
abbrev pub IsMissedOf : PathMap Definer → ℕ → List (List Segment) → Clashes
IsMissedOf firsts number ps = IsFirstOther firsts number (λ p x. Among ps p)

-- a method is awaited there, and the SSDT's object is none of so many arguments
abbrev pub IsAwaitedOf : PathMap Definer → ℕ → List (List Segment × ℕ) → Clashes
IsAwaitedOf firsts number es =
    IsFirstOther firsts number (λ p x. (n : ℕ) × Among es (p, n) × (takes x n ≡ false))

abbrev pub IsUnmetOf : PathMap Definer → ℕ → Misses → Clashes
IsUnmetOf firsts number t =
    IsFirstOther firsts number
    (λ p x. IsTrue (is_defined t.missed p)
    ⊎ ((n : ℕ) × (get t.awaited p ≡ Some n) × (takes x n ≡ false)))

-- .. in a single load
abbrev pub IsUnmetBy : ℕ → PathMap Definer → ℕ → Listing → Listing → Clashes
IsUnmetBy depth firsts number first t =
    IsFirstOther firsts number
    (λ p x. IsMiss depth first t p ⊎ ((n : ℕ) × IsAwaited depth first t p n × (takes x n ≡ false)))

-- .. of SSDT i
abbrev pub IsUnmetAt : ℕ → List ℕ → List (List ℕ) → PathMap Definer → Clashes
IsUnmetAt depth dsdt ssdts firsts i j p =
    (b : List ℕ) × (first : Listing) × (t : Listing) × IsSsdt ssdts i b
    × AreSingleListings depth dsdt b first t × IsUnmetBy depth firsts i first t i j p

-- ---- satisfied Externals

-- those of which P holds are added
abbrev pub AddsSatisfied : List Satisfied → List Satisfied → (Satisfied → Type 0) → Type 0
AddsSatisfied old new P = (s : Satisfied) → Among new s ↔ (Among old s ⊎ P s)

-- those of which P holds are put behind the list, in their order
pub record PutsSatisfied (old new : List Satisfied) (P : Satisfied → Type 0) : Type 0 where
  pub own : List Satisfied
  pub behind : new ≡ old ++ own
  pub ascend : IsStrictlySortedBy satisfied_cmp own
  pub are : (s : Satisfied) → Among own s ↔ P s

-- the user awaits it, and another SSDT of which P holds declares such a method there
abbrev pub IsSatisfiedFor : ℕ → (List Segment → ℕ → Type 0) → (List Segment → Definer → Type 0)
    → Satisfied → Type 0
IsSatisfiedFor user Awaits P s =
    (user ≡ s.user) × (x : Definer) × P s.path x × (x.number ≡ s.definer) × (x.number ≢ user)
    × (n : ℕ) × Awaits s.path n × (takes x n ≡ true)

-- .. at that path
abbrev pub IsSatisfiedAt : ℕ → List Segment → ℕ → (List Segment → Definer → Type 0) → Satisfied
    → Type 0
IsSatisfiedAt user p n = IsSatisfiedFor user (λ q k. (p ≡ q) × (n ≡ k))

-- .. by one of these
abbrev pub IsSatisfiedByAny : ℕ → List Segment → ℕ → List Definer → Satisfied → Type 0
IsSatisfiedByAny user p n xs = IsSatisfiedAt user p n (λ q x. Among xs x)

-- .. of those that are noted
abbrev pub IsSatisfiedOf : Definers → ℕ → List (List Segment × ℕ) → Satisfied → Type 0
IsSatisfiedOf d user es = IsSatisfiedFor user (λ p n. Among es (p, n)) (IsNoted d)

-- ---- one SSDT

-- what its misses say, over what was found before
pub record FindsPair (d : Definers) (number : ℕ) (pair : PairTree)
    (old new : PairFindings) : Type 0 where
  pub clash : Offers old.clash new.clash
      (λ i j p. IsUnmetOf d.first number pair.own i j p ⊎ IsUnmetOf d.first number pair.under i j p)
  pub satisfied : PutsSatisfied old.satisfied.items new.satisfied.items
      (IsSatisfiedOf d number (entries pair.own.awaited))

-- .. of its single load
pub record FindsSsdt (depth : ℕ) (dsdt ssdt : List ℕ) (d : Definers) (number : ℕ)
    (old new : PairFindings) : Type 0 where
  pub first : Listing
  pub t : Listing
  pub listings : AreSingleListings depth dsdt ssdt first t
  pub clash : Offers old.clash new.clash (IsUnmetBy depth d.first number first t)
  pub satisfied : PutsSatisfied old.satisfied.items new.satisfied.items
      (IsSatisfiedFor number (IsAwaitedInTable depth (objects_of_both first t) t) (IsNoted d))

-- ---- all of them

-- what is found of the SSDTs up to that number
pub record AreFoundTo (depth : ℕ) (dsdt : List ℕ) (ssdts : List (List ℕ)) (d : Definers) (n : ℕ)
    (f : PairFindings) : Type 0 where
  pub clash : IsLeastOf (λ i j p. IsUnmetAt depth dsdt ssdts d.first i j p × (i ≤ n)) f.clash
  pub ascend : IsStrictlySortedBy satisfied_cmp f.satisfied.items
  pub satisfied : (s : Satisfied)
      → Among f.satisfied.items s
      ↔ (IsSatisfied depth dsdt ssdts s.user s.definer s.path × (s.user ≤ n))

pub record AreFound (depth : ℕ) (dsdt : List ℕ) (ssdts : List (List ℕ)) (d : Definers)
    (f : PairFindings) : Type 0 where
  pub clash : IsLeastOf (IsUnmetAt depth dsdt ssdts d.first) f.clash
  pub satisfied : AreSatisfied depth dsdt ssdts f.satisfied.items
