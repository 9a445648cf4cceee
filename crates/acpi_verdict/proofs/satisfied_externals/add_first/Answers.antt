use Rattle.std.proofs.Common.{◌≡◌, Some, None, rules}
use Rattle.std.specs.FinMap.{get}
use Rattle.std.proofs.lemmas.Result.{on_ok_weaker}
use Rattle.acpi_verdict.proofs.SatisfiedExternals.{first_met, no_first_met}
use Rattle.acpi_verdict.proofs.satisfied_externals.add_first.Goals as goal

pub returns-in-Some : goal.returns-in-Some
returns-in-Some c =
    let there : get c.args.first.now c.args.path.now ≡ Some c.in-Some.definer.now = search rules in
    on_ok_weaker c.add_if_satisfied.result
    (first_met c.args.user c.args.path.now c.args.count c.args.first.now c.in-Some.definer.now there c.args.found.now.items c.add_if_satisfied.new.found.items) c.add_if_satisfied.ensures

pub returns-in-None : goal.returns-in-None
returns-in-None c =
    let none : get c.args.first.now c.args.path.now ≡ None = search rules in
    no_first_met c.args.user c.args.path.now c.args.count c.args.first.now none c.args.found.now.items
