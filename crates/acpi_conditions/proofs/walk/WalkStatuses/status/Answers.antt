use Rattle.std.proofs.Common.{ap, ◌∙◌}
use Rattle.acpi_conditions.specs.Known.{is_possible, is_possible_scope}
use Rattle.acpi_conditions.specs.Walk.{Walk}
use Rattle.acpi_conditions.proofs.KeptLists.{possible_any_way, possible_scope_any_way}
use Rattle.acpi_conditions.proofs.walk.WalkStatuses.status.Goals as goal

pub returns-clause-possible : goal.returns-clause-possible
returns-clause-possible c = c.status.ensures.possible ∙ possible_any_way c.self.inside.ways c.self.inside.paths c.args.path.now ∙ ap (λ (w : Walk). is_possible w.known c.args.path.now) c.self.view_is

pub returns-clause-possible_scope : goal.returns-clause-possible_scope
returns-clause-possible_scope c =
    c.status.ensures.possible_scope ∙ possible_scope_any_way c.self.inside.ways c.self.inside.paths c.args.path.now ∙ ap (λ (w : Walk). is_possible_scope w.known c.args.path.now) c.self.view_is
