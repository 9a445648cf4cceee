use Rattle.std.proofs.Common.{◌≡◌, Some, None, rules}
use Rattle.std.specs.FinMap.{get}
use Rattle.acpi_verdict.proofs.Marked.{first_marked, no_first_marked}
use Rattle.acpi_verdict.proofs.affected_ssdts.mark_first.Goals as goal

pub returns-in-Some : goal.returns-in-Some
returns-in-Some c =
    let there : get c.args.definers.now.first c.args.path.now ≡ Some c.in-Some.first.now = search rules in
    first_marked c.args.definers.now c.args.path.now c.in-Some.first.now there c.args.affected.now.items c.mark.new.affected.items c.mark.ensures

pub returns-in_default : goal.returns-in_default
returns-in_default c =
    let none : get c.args.definers.now.first c.args.path.now ≡ None = search rules in
    no_first_marked c.args.definers.now c.args.path.now none c.args.affected.now.items
