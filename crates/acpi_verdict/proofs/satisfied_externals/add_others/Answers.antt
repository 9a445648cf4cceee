use Rattle.std.proofs.Common.{List, sym, subst}
use Rattle.std.proofs.lemmas.Result.{on_ok_weaker}
use Rattle.acpi_verdict.specs.declared.definers.Definer.{Definer}
use Rattle.acpi_verdict.specs.steps.Finding.{AddsSatisfied, IsSatisfiedByAny}
use Rattle.acpi_verdict.proofs.SatisfiedExternals.{others_met, no_others_met}
use Rattle.acpi_verdict.proofs.satisfied_externals.add_others.Goals as goal

pub returns-in-Some : goal.returns-in-Some
returns-in-Some c =
    let xs = c.in-Some.definers.now in
    let old = c.args.found.now.items in
    let new = c.add_all_satisfied.new.found.items in
    on_ok_weaker c.add_all_satisfied.result
    (λ h. others_met c.args.user c.args.path.now c.args.count c.args.others.now xs (sym c.in-Some.ensures.value) old new
    (subst (λ (ys : List Definer). AddsSatisfied old new (IsSatisfiedByAny c.args.user c.args.path.now c.args.count ys)) c.deref.ensures.value h)) c.add_all_satisfied.ensures

pub returns-in-None : goal.returns-in-None
returns-in-None c = no_others_met c.args.user c.args.path.now c.args.count c.args.others.now (sym c.in-None.ensures.value) c.args.found.now.items
