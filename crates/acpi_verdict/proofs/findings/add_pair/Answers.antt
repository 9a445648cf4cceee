use Rattle.std.proofs.Common.{subst}
use Rattle.std.proofs.lemmas.Result.{on_ok_weaker}
use Rattle.acpi_verdict.specs.steps.Clashing.{Offers}
use Rattle.acpi_verdict.specs.steps.Finding.{IsUnmetOf}
use Rattle.acpi_verdict.specs.steps.PairMisses.{pair_view}
use Rattle.acpi_verdict.specs.declared.misses.Misses.{Misses}
use Rattle.acpi_verdict.proofs.Offers.{offers_both}
use Rattle.acpi_verdict.proofs.findings.add_pair.Goals as goal

pub returns : goal.returns
returns c =
    let firsts = c.args.definers.now.first in
    let pair = pair_view c.args.pair.now in
    on_ok_weaker c.put_user.result
    (λ h. record {
      clash = offers_both (IsUnmetOf firsts c.args.number pair.own) (IsUnmetOf firsts c.args.number pair.under) c.args.found.now.clash c.offer_misses.new.clash c.offer_misses-2.new.clash
          c.in_ok-offer_misses.ensures
          (subst (λ (t : Misses). Offers c.offer_misses.new.clash c.offer_misses-2.new.clash (IsUnmetOf firsts c.args.number t)) c.misses.ensures c.in_ok-offer_misses-2.ensures);
      satisfied = h;
    })
    c.put_user.ensures
