use Rattle.std.proofs.Common.{◌∙◌, ◌||◌, sym, ap₂}
use Rattle.acpi_survey.proofs.LocalPaths.{certain_with_locals, certain_scope_behind}
use Rattle.acpi_entries.proofs.locals.WithLocalsStatuses.status.Goals as goal

pub returns-clause-certain : goal.returns-clause-certain
returns-clause-certain g c =
    c.certain_with_locals-certain.ensures.something ∙ ap₂ (λ a b. a || b) c.is_local.ensures c.status-status.ensures.certain
    ∙ sym (certain_with_locals c.args.self.now.locals.now (g.S.Statuses.known c.args.self.now.known.now) c.args.path.now)

pub returns-clause-certain_scope : goal.returns-clause-certain_scope
returns-clause-certain_scope g c =
    c.certain_with_locals-certain.ensures.scope ∙ c.status-status.ensures.certain_scope ∙ sym (certain_scope_behind c.args.self.now.locals.now (g.S.Statuses.known c.args.self.now.known.now) c.args.path.now)
