use Rattle.std.proofs.lemmas.Result.{on_ok_weaker}
use Rattle.acpi_verdict.proofs.SatisfiedExternals.{met_noted}
use Rattle.acpi_verdict.proofs.satisfied_externals.add_satisfied.Goals as goal

pub returns : goal.returns
returns c =
    let old = c.args.found.now.items in
    let new = c.add_others.new.found.items in
    on_ok_weaker c.add_others.result
    (met_noted c.args.definers.now c.args.user c.args.path.now c.args.count old c.add_first.new.found.items new c.in_ok-add_first.ensures) c.add_others.ensures
