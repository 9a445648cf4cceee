-- The verdict, and what is satisfied, by what is found of the SSDTs.
use Rattle.std.proofs.Common.{◌≡◌, ◌≢◌, ◌↔◌, ℕ, List, [], Option, Some, None, Result, Ok, Err, refl, sym, subst, ◌∙◌}
use Rattle.std.specs.Prelude.{IfOk, IfErr}
use Rattle.std.specs.Global.{Vec}
use Rattle.acpi_declare.specs.declared.fault.LoadReason.{LoadReason}
use Rattle.acpi_declare.specs.declared.fault.LoadFault.{LoadFault}
use Rattle.acpi_declare.specs.declared.fault.LoadFault.TheVariants.{At, Memory}
use Rattle.acpi_declare.specs.Loads.{HasNoLoad}
use Rattle.acpi_declare.specs.Refusals.{IsLoadFault}
use Rattle.acpi_declare.proofs.Refusals.{refused_has_no_load}
use Rattle.acpi_order.specs.Independent.{IsIndependent}
use Rattle.acpi_order.specs.Laws.{CommuteIsIndependent, OneVerdict}
use Rattle.acpi_order.specs.Orders.{EachOrderLoadsToJoin}
use Rattle.acpi_order.specs.Verdicts.{not_alone, DsdtLoads, AllAlone, IsReasonAt, IsSame, NoneSame, IsMissed, IsVerdict}
use Rattle.acpi_order.proofs.Told.{each_order_loads}
use Rattle.acpi_verdict.specs.declared.clashes.Clash.{Clash}
use Rattle.acpi_verdict.specs.declared.ssdt_paths.SsdtPaths.{SsdtPaths}
use Rattle.acpi_verdict.specs.declared.findings.PairFindings.{PairFindings}
use Rattle.acpi_verdict.specs.declared.verdicts.Checked.{Checked}
use Rattle.acpi_verdict.specs.declared.verdicts.Satisfied.{Satisfied}
use Rattle.acpi_verdict.specs.declared.verdicts.Verdict.{Verdict}
use Rattle.acpi_verdict.specs.declared.verdicts.Verdict.TheVariants as verdicts
use Rattle.acpi_verdict.specs.VerdictView.{verdict_view, IsFaultOf, IsFirstRefused}
use Rattle.acpi_verdict.specs.steps.Checking.{IsChecked, verdict_from}
use Rattle.acpi_verdict.specs.steps.Clashing.{IsLeastOf}
use Rattle.acpi_verdict.specs.steps.Declaring.{AreDeclared}
use Rattle.acpi_verdict.specs.steps.Finding.{AreFound}
use Rattle.acpi_verdict.proofs.AloneLoads.{alone_at}
use Rattle.acpi_verdict.proofs.FoundTables.{first_missed}
use Rattle.acpi_verdict.proofs.FoundVerdict.{commutes, not_alone_verdict}

-- ---- results

pub told_commute_so : (depth : ℕ) (dsdt : List ℕ) (ssdts : List (List ℕ)) (r : Result Checked LoadFault) → OneVerdict → CommuteIsIndependent
    → IfOk r (λ c. IsVerdict depth dsdt ssdts (verdict_view c.verdict))
    → ssdts ≢ [] → IfOk r (λ c. (c.verdict ≡ verdicts.Commute) ↔ IsIndependent depth dsdt ssdts)
told_commute_so depth dsdt ssdts (Ok c) one law h some = commutes depth dsdt ssdts one law some c.verdict h
told_commute_so depth dsdt ssdts (Err e) one law h some = tt

pub told_orders_so : {T : Type 0} (depth : ℕ) (dsdt : List ℕ) (ssdts : List (List ℕ)) (r : Result T LoadFault) (verdict : T → Verdict)
    → (ssdts ≢ [] → IfOk r (λ c. (verdict c ≡ verdicts.Commute) ↔ IsIndependent depth dsdt ssdts))
    → ssdts ≢ [] → IfOk r (λ c. verdict c ≡ verdicts.Commute → EachOrderLoadsToJoin depth dsdt ssdts)
told_orders_so depth dsdt ssdts (Ok c) verdict h some =
    λ is given order. each_order_loads depth dsdt ssdts given (record { some = some; order = order; independent = (h some).0 is })
told_orders_so depth dsdt ssdts (Err e) verdict h some = tt

pub told_no_load : {T : Type 0} (depth : ℕ) (tables : List (List ℕ)) (r : Result T LoadFault) → IfErr r (λ e. IsLoadFault depth tables e)
    → IfErr r (λ e. e ≢ Memory → HasNoLoad depth tables)
told_no_load depth tables (Ok c) h = tt
told_no_load depth tables (Err e) h = λ other. refused_has_no_load depth tables e h other

not_all_alone : (depth : ℕ) (dsdt : List ℕ) (ssdts : List (List ℕ)) (i : ℕ) (reason : LoadReason) → IsFirstRefused depth dsdt ssdts i reason → AllAlone depth dsdt ssdts → ⊥
not_all_alone depth dsdt ssdts i reason h all =
    let first = (not_alone_verdict depth dsdt ssdts i reason h).1 in
    first.refused (alone_at depth dsdt ssdts all i first.ssdt first.is_ssdt)

-- ---- what is found

module _ (depth : ℕ) (dsdt : List ℕ) (ssdts : List (List ℕ)) (loads : DsdtLoads depth dsdt) (d : SsdtPaths) (declared : AreDeclared depth dsdt ssdts d) (f : PairFindings)
    (found : AreFound depth dsdt ssdts d.definers f) where
  same_at : (o : Option Clash) → d.same ≡ o → IsLeastOf (IsSame depth dsdt ssdts) o
  same_at o is = subst (λ (x : Option Clash). IsLeastOf (IsSame depth dsdt ssdts) x) is declared.same

  missed_at : NoneSame depth dsdt ssdts → (o : Option Clash) → f.clash ≡ o → IsLeastOf (IsMissed depth dsdt ssdts) o
  missed_at unique o is = subst (λ (x : Option Clash). IsLeastOf (IsMissed depth dsdt ssdts) x) is (first_missed depth dsdt ssdts d.definers declared.definers unique f.clash found.clash)

  right : (same missed : Option Clash) → d.same ≡ same → f.clash ≡ missed → IsVerdict depth dsdt ssdts (verdict_view (verdict_from same missed))
  right (Some c) missed e g = (loads, (declared.alone, same_at (Some c) e))
  right None (Some c) e g = let unique = same_at None e in (loads, (declared.alone, unique, missed_at unique (Some c) g))
  right None None e g = let unique = same_at None e in (loads, (declared.alone, unique, missed_at unique None g))

  no_fault : (same missed : Option Clash) → IsFaultOf depth dsdt ssdts (verdict_from same missed)
  no_fault (Some c) missed = tt
  no_fault None (Some c) = tt
  no_fault None None = tt

  pub all_checked : (v : Verdict) → v ≡ verdict_from d.same f.clash → IsChecked depth dsdt ssdts (record { verdict = v; satisfied = f.satisfied })
  all_checked v is = record {
    verdict = subst (λ (x : Verdict). IsVerdict depth dsdt ssdts (verdict_view x)) (sym is) (right d.same f.clash refl refl);
    fault = subst (IsFaultOf depth dsdt ssdts) (sym is) (no_fault d.same f.clash);
    satisfied = λ all. found.satisfied;
    refused = λ none. absurd (none declared.alone);
  }

-- ---- as results

pub memory_so : {T : Type 0} (r : Result T LoadFault) (depth : ℕ) (tables : List (List ℕ)) → IfErr r (λ e. e ≡ Memory) → IfErr r (λ e. IsLoadFault depth tables e)
memory_so (Ok x) depth tables h = tt
memory_so (Err e) depth tables h = subst (λ (f : LoadFault). IsLoadFault depth tables f) (sym h) tt

-- ---- a refusal

-- .. told of number i under the same number, for the reason
pub refused_checked : (depth : ℕ) (dsdt : List ℕ) (ssdts : List (List ℕ)) (n k : ℕ) (why : LoadReason) (i : ℕ) (reason : LoadReason) (found : Vec Satisfied) → n ≡ i → k ≡ i
    → why ≡ reason
    → IsFirstRefused depth dsdt ssdts i reason → found.items ≡ [] → IsChecked depth dsdt ssdts (record { verdict = verdicts.NotAlone n (At k why); satisfied = found })
refused_checked depth dsdt ssdts n k why i reason found of_ssdt of_table of_reason h none = record {
  verdict = subst (λ (x : ℕ). IsVerdict depth dsdt ssdts (not_alone x)) (sym of_ssdt) (not_alone_verdict depth dsdt ssdts i reason h);
  fault = (
    of_table ∙ sym of_ssdt,
    subst (λ (x : ℕ). IsReasonAt depth dsdt ssdts x why) (sym of_ssdt) (subst (λ (x : LoadReason). IsReasonAt depth dsdt ssdts i x) (sym of_reason) h.is_reason),
  );
  satisfied = λ all. absurd (not_all_alone depth dsdt ssdts i reason h all);
  refused = λ x. none;
}
