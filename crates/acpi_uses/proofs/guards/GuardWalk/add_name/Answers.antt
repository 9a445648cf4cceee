use Rattle.acpi_uses.proofs.Walks.{name_is_counted, name_is_no_statement}
use Rattle.acpi_uses.proofs.guards.GuardWalk.add_name.Goals as goal

pub invariant_of-self-2 : goal.invariant_of-self-2
invariant_of-self-2 c = record {
  counted = name_is_counted _ _ c.args.name _ c.in_ok-push.ensures.items c.args.self.now.counted;
}

pub returns-clause-statements : goal.returns-clause-statements
returns-clause-statements c = name_is_no_statement _ _ c.args.name c.in_ok-push.ensures.items
