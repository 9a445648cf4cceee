-- What `check_shared` tells of SSDTs over a DSDT that loads.
use Rattle.std.specs.Prelude.{◌≡◌, ℕ, List, [], Option, Some, None}
use Rattle.acpi_order.specs.Verdicts.{IsVerdict, AllAlone}
use Rattle.acpi_verdict.specs.declared.clashes.Clash.{Clash}
use Rattle.acpi_verdict.specs.declared.verdicts.Checked.{Checked}
use Rattle.acpi_verdict.specs.declared.verdicts.Verdict.{Verdict}
use Rattle.acpi_verdict.specs.declared.verdicts.Verdict.TheVariants.{Same, Missed, Commute}
use Rattle.acpi_verdict.specs.SatisfiedView.{AreSatisfied}
use Rattle.acpi_verdict.specs.VerdictView.{verdict_view, IsFaultOf}

-- by the first two SSDTs that declare one path, and the first of which one missed what the other declares
abbrev pub verdict_from : Option Clash → Option Clash → Verdict
verdict_from (Some c) missed = Same c.first c.second c.path
verdict_from None (Some c) = Missed c.first c.second c.path
verdict_from None None = Commute

pub record IsChecked (depth : ℕ) (dsdt : List ℕ) (ssdts : List (List ℕ))
    (c : Checked) : Type 0 where
  pub verdict : IsVerdict depth dsdt ssdts (verdict_view c.verdict)
  pub fault : IsFaultOf depth dsdt ssdts c.verdict
  pub satisfied : AllAlone depth dsdt ssdts → AreSatisfied depth dsdt ssdts c.satisfied.items
  pub refused : (AllAlone depth dsdt ssdts → ⊥) → c.satisfied.items ≡ []
