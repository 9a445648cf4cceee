-- What a `Verdict` says of SSDTs over a DSDT (ACPI 6.5, 5.2.11 and 5.3).
use Rattle.std.specs.Prelude.{◌≡◌, ℕ, ◌<◌, List}
use Rattle.acpi_declare.specs.declared.fault.LoadReason.{LoadReason}
use Rattle.acpi_declare.specs.declared.fault.LoadFault.{LoadFault}
use Rattle.acpi_declare.specs.declared.fault.LoadFault.TheVariants.{At, Memory}
use Rattle.acpi_order.specs.Independent.{LoadsAlone}
use Rattle.acpi_order.specs.Verdicts.{VerdictTree, commute, not_alone, same, missed, IsSsdt, DsdtLoads, IsReasonAt}
use Rattle.acpi_verdict.specs.declared.verdicts.Verdict.{Verdict}
use Rattle.acpi_verdict.specs.declared.verdicts.Verdict.TheVariants.{NotAlone, Same, Missed, Commute}

abbrev pub verdict_view : Verdict → VerdictTree
verdict_view (NotAlone i fault) = not_alone i
verdict_view (Same i j path) = same i j path
verdict_view (Missed searcher definer path) = missed searcher definer path
verdict_view Commute = commute

-- a fault that is told of an SSDT: it has the SSDT's number, and the reason is true
abbrev pub IsFaultAt : ℕ → List ℕ → List (List ℕ) → ℕ → LoadFault → Type 0
IsFaultAt depth dsdt ssdts i (At table reason) = (table ≡ i) × IsReasonAt depth dsdt ssdts i reason
IsFaultAt depth dsdt ssdts i Memory = ⊥

abbrev pub IsFaultOf : ℕ → List ℕ → List (List ℕ) → Verdict → Type 0
IsFaultOf depth dsdt ssdts (NotAlone i fault) = IsFaultAt depth dsdt ssdts i fault
IsFaultOf depth dsdt ssdts (Same i j path) = Unit {0}
IsFaultOf depth dsdt ssdts (Missed searcher definer path) = Unit {0}
IsFaultOf depth dsdt ssdts Commute = Unit {0}

-- the DSDT loads, and so does each SSDT before that one alone; that one is refused for the reason
pub record IsFirstRefused (depth : ℕ) (dsdt : List ℕ) (ssdts : List (List ℕ)) (i : ℕ)
    (reason : LoadReason) : Type 0 where
  pub loads : DsdtLoads depth dsdt
  pub earlier : (k : ℕ) (b : List ℕ) → k < i → IsSsdt ssdts k b → LoadsAlone depth dsdt b
  pub is_reason : IsReasonAt depth dsdt ssdts i reason

-- why the single loads are not all there: the first that is refused
abbrev pub IsSinglesFault : ℕ → List ℕ → List (List ℕ) → LoadFault → Type 0
IsSinglesFault depth dsdt ssdts (At i reason) = IsFirstRefused depth dsdt ssdts i reason
IsSinglesFault depth dsdt ssdts Memory = Unit {0}
