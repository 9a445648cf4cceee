use Rattle.std.proofs.Common.{◌∙◌, ap, length}
use Rattle.acpi_name.specs.NameRefs.{name_parts}
use Rattle.acpi_conditions.proofs.Placings.{not_alone, opened_several}
use Rattle.acpi_conditions.proofs.placing.open_at.Goals as goal

pub returns-then-not-alone-clause-refused : goal.returns-then-not-alone-clause-refused
returns-then-not-alone-clause-refused g c =
    opened_several (g.S.Statuses.known c.args.known.now) c.args.scope.now (name_parts c.args.name) c.in_ok-found.found.paths.items c.pop.new.self.items c.in-Some.path c.push.new.self.items
    c.in_ok-found.ensures.paths c.in-Some.ensures.items c.in_ok-push-in-Some.ensures.items
    (λ nil. not_alone c.is_empty-alone.result c.pop.new.self.len c.is_empty-alone.ensures c.if-not-alone.true (c.pop.new.self.ok.0 ∙ ap length nil))
