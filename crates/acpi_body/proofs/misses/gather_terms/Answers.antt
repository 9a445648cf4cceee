use Rattle.acpi_tree.specs.TermView.{terms_tree}
use Rattle.acpi_body.proofs.Grown.{terms_firm, terms_awaited}
use Rattle.acpi_body.proofs.misses.gather_terms.Goals as goal

pub returns-clause-firm : goal.returns-clause-firm
returns-clause-firm g c =
    terms_firm (g.Q.Wanted.wanted c.args.wanted.now) c.args.context.now c.new-locals.result c.none-gathered.result c.statements.new.gathered (terms_tree c.args.terms.now) c.new-locals.ensures c.none-gathered.ensures c.in_ok-statements.ensures.gathered

pub returns-clause-awaited : goal.returns-clause-awaited
returns-clause-awaited g c =
    terms_awaited (g.Q.Wanted.wanted c.args.wanted.now) c.args.context.now c.new-locals.result c.none-gathered.result c.statements.new.gathered (terms_tree c.args.terms.now) c.new-locals.ensures c.none-gathered.ensures c.in_ok-statements.ensures.gathered
