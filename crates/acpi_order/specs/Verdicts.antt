-- Whether SSDTs commute over a DSDT, and else the first reason that they may not (ACPI 6.5, 5.2.11 and 5.3).
use Rattle.std.specs.Prelude.{◌≡◌, ◌≢◌, ◌⊎◌, ℕ, zero, suc, ◌<◌, false, List, [], ◌∷◌, Some}
use Rattle.std.specs.declared.cmp.Ordering.TheVariants.{Less}
use Rattle.std.specs.List.{AllByRecursion}
use Rattle.acpi_name.specs.Names.{Segment}
use Rattle.acpi_name.specs.Paths.{path_cmp}
use Rattle.acpi_tree.specs.Objects.{ObjectTree}
use Rattle.acpi_declare.specs.Listing.{objects_of}
use Rattle.acpi_declare.specs.Loads.{AreListings}
use Rattle.acpi_declare.specs.Predefined.{predefined}
use Rattle.acpi_declare.specs.Refusals.{IsFirstWithout}
use Rattle.acpi_declare.specs.declared.fault.LoadReason.{LoadReason}
use Rattle.acpi_order.specs.Misses.{Listing, IsMiss, IsAwaited}
use Rattle.acpi_order.specs.Independent.{StandsAt, AreSingleListings, LoadsAlone, is_method_of}

-- SSDTs by their numbers, from 1
pub data VerdictTree : Type 0 where
  commute : VerdictTree
  not_alone : (table : ℕ) → VerdictTree
  same : (first second : ℕ) (path : List Segment) → VerdictTree
  missed : (searcher definer : ℕ) (path : List Segment) → VerdictTree

-- the SSDT of that number
abbrev pub IsSsdt : List (List ℕ) → ℕ → List ℕ → Type 0
IsSsdt ssdts zero b = ⊥
IsSsdt ssdts (suc k) b = StandsAt ssdts k b

abbrev pub DsdtLoads : ℕ → List ℕ → Type 0
DsdtLoads depth dsdt = (first : Listing) × AreListings depth 0 predefined (dsdt ∷ []) (first ∷ [])

-- ---- the first of several pairs and paths

abbrev pub IsPairBefore : (i j a b : ℕ) → Type 0
IsPairBefore i j a b = (i < a) ⊎ ((i ≡ a) × (j < b))

abbrev pub IsBefore : (i j : ℕ) (p : List Segment) (a b : ℕ) (q : List Segment) → Type 0
IsBefore i j p a b q = (i < a) ⊎ ((i ≡ a) × (j < b)) ⊎ ((i ≡ a) × (j ≡ b) × (path_cmp p q ≡ Less))

-- it holds there, and of no earlier pair and path
pub record IsLeast (Holds : ℕ → ℕ → List Segment → Type 0) (i j : ℕ)
    (p : List Segment) : Type 0 where
  pub holds : Holds i j p
  pub none_before : (a b : ℕ) (q : List Segment) → Holds a b q → IsBefore a b q i j p → ⊥

-- ---- SSDTs over a DSDT

-- the load of DSDT and SSDT missed the path, or awaits another method there than that object
abbrev pub IsUnmet : ℕ → Listing → Listing → List Segment → ObjectTree → Type 0
IsUnmet depth first t p o = IsMiss depth first t p
    ⊎ ((args : ℕ) × IsAwaited depth first t p args × (is_method_of o args ≡ false))

module _ (depth : ℕ) (dsdt : List ℕ) (ssdts : List (List ℕ)) where
  abbrev pub AllAlone : Type 0
  AllAlone = AllByRecursion (LoadsAlone depth dsdt) ssdts

  -- the first SSDT that doesn't load alone
  pub record IsFirstNotAlone (i : ℕ) : Type 0 where
    pub ssdt : List ℕ
    pub is_ssdt : IsSsdt ssdts i ssdt
    pub refused : LoadsAlone depth dsdt ssdt → ⊥
    pub earlier : (k : ℕ) (b : List ℕ) → k < i → IsSsdt ssdts k b → LoadsAlone depth dsdt b

  -- the reason why SSDT i doesn't load alone: the load of the DSDT with it is refused at it
  abbrev pub IsReasonAt : ℕ → LoadReason → Type 0
  IsReasonAt i reason =
      (b : List ℕ) × IsSsdt ssdts i b × IsFirstWithout depth (dsdt ∷ b ∷ []) 1 reason

  -- the listings of the DSDT and of SSDT i in its single load
  abbrev pub AreListingsAt : ℕ → Listing → Listing → Type 0
  AreListingsAt i first t =
      (b : List ℕ) × IsSsdt ssdts i b × AreSingleListings depth dsdt b first t

  -- both SSDTs declare the path
  abbrev pub IsSame : (i j : ℕ) → List Segment → Type 0
  IsSame i j p = (i < j) × (first : Listing) × (t : Listing) × (u : Listing)
      × AreListingsAt i first t × AreListingsAt j first u
      × (o : ObjectTree) × (x : ObjectTree) × (objects_of t p ≡ Some o) × (objects_of u p ≡ Some x)

  abbrev pub NoneSame : Type 0
  NoneSame = (i j : ℕ) (p : List Segment) → IsSame i j p → ⊥

  -- SSDT j declares what a search in the single load of SSDT i missed, or another method than one that it awaits
  abbrev pub IsMissed : (i j : ℕ) → List Segment → Type 0
  IsMissed i j p = (i ≢ j) × (first : Listing) × (t : Listing) × (u : Listing)
      × AreListingsAt i first t × AreListingsAt j first u
      × (o : ObjectTree) × (objects_of u p ≡ Some o) × IsUnmet depth first t p o

  abbrev pub NoneMissed : Type 0
  NoneMissed = (i j : ℕ) (p : List Segment) → IsMissed i j p → ⊥

  abbrev pub IsVerdictOf : VerdictTree → Type 0
  IsVerdictOf commute = AllAlone × NoneSame × NoneMissed
  IsVerdictOf (not_alone i) = IsFirstNotAlone i
  IsVerdictOf (same i j p) = AllAlone × IsLeast IsSame i j p
  IsVerdictOf (missed i j p) = AllAlone × NoneSame × IsLeast IsMissed i j p

  -- the DSDT loads, and the verdict is the first of the four that holds
  abbrev pub IsVerdict : VerdictTree → Type 0
  IsVerdict v = DsdtLoads depth dsdt × IsVerdictOf v
