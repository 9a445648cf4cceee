use Rattle.std.proofs.lemmas.Result.{on_ok_weaker}
use Rattle.acpi_verdict.proofs.UnmetPaths.{unmet_both}
use Rattle.acpi_verdict.proofs.miss_clashes.offer_misses.Goals as goal

pub returns : goal.returns
returns c =
    on_ok_weaker c.offer_all_awaited.result
    (λ h. unmet_both c.args.definers.now c.args.searcher c.args.misses.now c.args.clash.now c.offer_all_missed.new.clash c.offer_all_awaited.new.clash c.in_ok-offer_all_missed.ensures h)
    c.offer_all_awaited.ensures
