use Rattle.std.specs.FinMap.{entries}
use Rattle.std.proofs.lemmas.Result.{on_ok_weaker}
use Rattle.acpi_verdict.specs.steps.Finding.{IsSatisfiedOf}
use Rattle.acpi_verdict.proofs.PutExternals.{puts_own}
use Rattle.acpi_verdict.proofs.satisfied_externals.put_user.Goals as goal

pub returns : goal.returns
returns c =
    let found = c.add_awaited.new.found.items in
    let own = c.put_in_order.new.own.items in
    on_ok_weaker c.put_behind.result
    (puts_own (IsSatisfiedOf c.args.definers.now c.args.user (entries c.args.awaited.now)) c.new-own.result.items found own c.new-own.ensures.items c.in_ok-add_awaited.ensures
    c.put_in_order.ensures.ascend c.put_in_order.ensures.same c.args.list.now.items c.put_behind.new.list.items) c.put_behind.ensures
