use Rattle.acpi_uses.proofs.Walks.{drop_step, exits_step, names_step, statements_step}
use Rattle.acpi_uses.proofs.guards.GuardWalk.+guarded.Goals as goal

pub add_all-each-preserved : goal.add_all-each-preserved
add_all-each-preserved t c =
    let d = drop_step c.args.terms.now c.each.term-index c.term-item.result c.each-test.true c.term-item.is in
    record {
      statements = statements_step _ _ _ _ _ _ c.term-item.result _ _ (rw d at c.each.invariant.statements)
          c.in_ok-add_statement.ensures.statements c.in_ok-add_statement.ensures.names
          c.in_ok-next.ensures.statements c.in_ok-next.ensures.names;
      names = names_step _ _ _ c.term-item.result _ _ (rw d at c.each.invariant.names)
          c.in_ok-add_statement.ensures.names c.in_ok-next.ensures.names;
      exits = exits_step _ _ _ c.term-item.result _ _ (rw d at c.each.invariant.exits) c.in_ok-next.ensures.exits c.in_turn-exits.ensures;
    }
