use Rattle.acpi_uses.proofs.Walks.{keep_is_no_statement, kept_are_counted}
use Rattle.acpi_uses.proofs.guards.GuardWalk.keep.Goals as goal

pub invariant_of-self-2 : goal.invariant_of-self-2
invariant_of-self-2 c = record {
  counted = kept_are_counted _ _ c.args.count c.in_ok-push.ensures.items c.requires;
}

pub returns-clause-statements : goal.returns-clause-statements
returns-clause-statements c = keep_is_no_statement _ _ c.args.count c.in_ok-push.ensures.items
