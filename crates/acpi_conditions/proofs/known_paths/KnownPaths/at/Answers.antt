use Rattle.std.proofs.Common.{[], ◌∙◌, ap}
use Rattle.acpi_conditions.specs.Known.{is_certain, is_certain_scope}
use Rattle.acpi_conditions.specs.KnownLists.{known_by}
use Rattle.acpi_conditions.specs.Presences.{is_something, is_a_scope}
use Rattle.acpi_conditions.proofs.KeptLists.{certain_answer, certain_scope_answer}
use Rattle.acpi_conditions.proofs.known_paths.KnownPaths.at.Goals as goal

pub returns-clause-certain : goal.returns-clause-certain
returns-clause-certain c =
    ap is_something c.at.ensures.certain ∙ certain_answer c.self.inside c.self.invariant c.args.path.now ∙ ap (λ k. is_certain (known_by [] k) c.args.path.now) c.self.view_is

pub returns-clause-certain_scope : goal.returns-clause-certain_scope
returns-clause-certain_scope c =
    ap is_a_scope c.at.ensures.certain ∙ certain_scope_answer c.self.inside c.self.invariant c.args.path.now ∙ ap (λ k. is_certain_scope (known_by [] k) c.args.path.now) c.self.view_is
