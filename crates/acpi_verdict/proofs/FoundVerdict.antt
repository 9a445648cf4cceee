-- A right verdict, by what is found.
use Rattle.std.proofs.Common.{◌≡◌, ◌≢◌, ◌↔◌, ℕ, List, [], refl, subst}
use Rattle.acpi_declare.specs.declared.fault.LoadReason.{LoadReason}
use Rattle.acpi_order.specs.Independent.{IsIndependent}
use Rattle.acpi_order.specs.Laws.{CommuteIsIndependent, OneVerdict}
use Rattle.acpi_order.specs.Verdicts.{commute, not_alone, IsVerdict}
use Rattle.acpi_order.proofs.Verdicts.{refused_is_not_alone}
use Rattle.acpi_verdict.specs.declared.verdicts.Verdict.{Verdict}
use Rattle.acpi_verdict.specs.declared.verdicts.Verdict.TheVariants as verdicts
use Rattle.acpi_verdict.specs.VerdictView.{verdict_view, IsFirstRefused}

pub not_alone_verdict : (depth : ℕ) (dsdt : List ℕ) (ssdts : List (List ℕ)) (i : ℕ) (reason : LoadReason) → IsFirstRefused depth dsdt ssdts i reason
    → IsVerdict depth dsdt ssdts (not_alone i)
not_alone_verdict depth dsdt ssdts i reason h = refused_is_not_alone depth dsdt ssdts i reason h.loads h.earlier h.is_reason

-- ---- commuting SSDTs are independent

is_commute : (v : Verdict) → verdict_view v ≡ commute → v ≡ verdicts.Commute
is_commute (verdicts.NotAlone i fault) e = cc
is_commute (verdicts.Same i j p) e = cc
is_commute (verdicts.Missed i j p) e = cc
is_commute verdicts.Commute e = refl

pub commutes : (depth : ℕ) (dsdt : List ℕ) (ssdts : List (List ℕ)) → OneVerdict → CommuteIsIndependent → ssdts ≢ [] → (v : Verdict) → IsVerdict depth dsdt ssdts (verdict_view v)
    → (v ≡ verdicts.Commute) ↔ IsIndependent depth dsdt ssdts
commutes depth dsdt ssdts one law some v h = (
  (λ e. (law depth dsdt ssdts some).0 (let P : Verdict → Type 0 = λ x. IsVerdict depth dsdt ssdts (verdict_view x) in subst P e h)),
  (λ free. is_commute v (one depth dsdt ssdts (verdict_view v) commute h ((law depth dsdt ssdts some).1 free))),
)

-- ---- tables and their copies

pub of_copies : (P : List ℕ → List (List ℕ) → Type 0) (dsdt copy : List ℕ) (ssdts copies : List (List ℕ)) → copy ≡ dsdt → copies ≡ ssdts → P copy copies → P dsdt ssdts
of_copies P dsdt copy ssdts copies one all h = subst (λ b. P b ssdts) one (subst (P copy) all h)
