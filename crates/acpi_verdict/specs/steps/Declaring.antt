-- What SSDTs declare over a DSDT, one after another.
use Rattle.std.specs.Prelude.{◌≡◌, ◌⊎◌, ◌↔◌, ℕ, ◌<◌, ◌≤◌, List, Option, Some, None}
use Rattle.std.specs.FinMap.{get}
use Rattle.acpi_name.specs.Names.{Segment}
use Rattle.acpi_space.specs.Laws.{Among}
use Rattle.acpi_tree.specs.Objects.{ObjectTree}
use Rattle.acpi_declare.specs.Listing.{objects_of}
use Rattle.acpi_order.specs.Independent.{AreSingleListings, LoadsAlone}
use Rattle.acpi_order.specs.Misses.{Listing}
use Rattle.acpi_order.specs.Verdicts.{IsSsdt, AllAlone, IsSame}
use Rattle.acpi_verdict.specs.declared.ssdt_paths.SsdtPaths.{SsdtPaths}
use Rattle.acpi_verdict.specs.declared.definers.Definer.{Definer}
use Rattle.acpi_verdict.specs.declared.definers.Definers.{Definers}
use Rattle.acpi_verdict.specs.steps.Clashing.{IsLeastOf, Offers}
use Rattle.acpi_verdict.specs.steps.Defining.{method_args, args_at, IsNoted}
use Rattle.acpi_verdict.specs.steps.Overlays.{OverlayTree}

-- ---- an SSDT that is laid

-- how many arguments its object at a path takes
abbrev pub args_in : OverlayTree → List Segment → Option ℕ
args_in l p = args_at (l.state.objects p)

-- a path, and how many arguments the object there takes
abbrev pub with_args : OverlayTree → List Segment → List Segment × Option ℕ
with_args l p = (p, args_in l p)

-- the SSDT of that number is one that declares the path, which is one of those
abbrev pub IsNewAt : ℕ → List (List Segment) → (List Segment → Option ℕ) → List Segment → Definer
    → Type 0
IsNewAt number ps args p x = Among ps p × (number ≡ x.number) × (args p ≡ x.args)

-- an earlier SSDT declares one of those paths first
abbrev pub IsSameAt : ℕ → List (List Segment) → Definers → ℕ → ℕ → List Segment → Type 0
IsSameAt number ps d i j p =
    (number ≡ j) × (i < j) × Among ps p × (x : Definer) × (get d.first p ≡ Some x) × (x.number ≡ i)

-- it is noted at its paths, and where it clashes with an earlier one
pub record AddsSsdt (number : ℕ) (ps : List (List Segment)) (args : List Segment → Option ℕ)
    (old new : SsdtPaths) : Type 0 where
  pub noted : (p : List Segment) (x : Definer)
      → IsNoted new.definers p x ↔ (IsNoted old.definers p x ⊎ IsNewAt number ps args p x)
  pub firsts : (p : List Segment) (x : Definer)
      → (get new.definers.first p ≡ Some x)
      ↔ ((get old.definers.first p ≡ Some x)
      ⊎ ((get old.definers.first p ≡ None) × IsNewAt number ps args p x))
  pub same : Offers old.same new.same (IsSameAt number ps old.definers)

-- ---- all of them

-- an SSDT that declares the path, and how many arguments its object takes
pub record IsDefiner (depth : ℕ) (dsdt : List ℕ) (ssdts : List (List ℕ)) (p : List Segment)
    (x : Definer) : Type 0 where
  pub ssdt : List ℕ
  pub is_ssdt : IsSsdt ssdts x.number ssdt
  pub first : Listing
  pub t : Listing
  pub listings : AreSingleListings depth dsdt ssdt first t
  pub object : ObjectTree
  pub declares : objects_of t p ≡ Some object
  pub args_are : method_args object ≡ x.args

-- who is first noted at a path has no greater number than another
abbrev pub AreFirst : Definers → Type 0
AreFirst d = (p : List Segment) (x : Definer) → IsNoted d p x
    → (y : Definer) × (get d.first p ≡ Some y) × (y.number ≤ x.number)

-- the SSDTs up to that number load alone, are noted at their paths, and the first two that declare one path are known
pub record AreDeclaredTo (depth : ℕ) (dsdt : List ℕ) (ssdts : List (List ℕ)) (n : ℕ)
    (d : SsdtPaths) : Type 0 where
  pub alone : (k : ℕ) (b : List ℕ) → k ≤ n → IsSsdt ssdts k b → LoadsAlone depth dsdt b
  pub noted : (p : List Segment) (x : Definer)
      → IsNoted d.definers p x ↔ (IsDefiner depth dsdt ssdts p x × (x.number ≤ n))
  pub firsts : AreFirst d.definers
  pub same : IsLeastOf (λ i j p. IsSame depth dsdt ssdts i j p × (j ≤ n)) d.same

-- who declares each path
pub record AreDefiners (depth : ℕ) (dsdt : List ℕ) (ssdts : List (List ℕ))
    (d : Definers) : Type 0 where
  pub noted : (p : List Segment) (x : Definer) → IsNoted d p x ↔ IsDefiner depth dsdt ssdts p x
  pub firsts : AreFirst d

-- all load alone, it is known who declares each path, and which are the first two that declare one
pub record AreDeclared (depth : ℕ) (dsdt : List ℕ) (ssdts : List (List ℕ))
    (d : SsdtPaths) : Type 0 where
  pub alone : AllAlone depth dsdt ssdts
  pub definers : AreDefiners depth dsdt ssdts d.definers
  pub same : IsLeastOf (IsSame depth dsdt ssdts) d.same
