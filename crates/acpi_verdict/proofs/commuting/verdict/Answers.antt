use Rattle.std.proofs.Common.{map, ◌∙◌}
use Rattle.std.specs.Prelude.{IfOk}
use Rattle.acpi_order.specs.Verdicts.{IsVerdict}
use Rattle.acpi_verdict.specs.VerdictView.{verdict_view}
use Rattle.acpi_verdict.proofs.FoundVerdict.{of_copies}
use Rattle.acpi_verdict.proofs.commuting.verdict.Goals as goal

pub returns-clause-ok : goal.returns-clause-ok
returns-clause-ok g c =
    of_copies (λ b bs. IfOk c.verdict_shared.result (λ v. IsVerdict c.args.depth b bs (verdict_view v))) c.args.dsdt.now c.in_ok-dsdt.dsdt (map (λ b. b.now) c.args.ssdts.now) c.deref.result.now
    c.in_ok-dsdt.ensures (c.deref.ensures.value ∙ c.in_ok-ssdts.ensures) c.verdict_shared.ensures.ok
