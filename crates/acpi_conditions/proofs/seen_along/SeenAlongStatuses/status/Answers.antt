use Rattle.std.proofs.Common.{◌∙◌, refl}
use Rattle.acpi_conditions.specs.Presences.{is_something, is_a_scope}
use Rattle.acpi_conditions.specs.declared.seen.Test.TheVariants.{Certain, CertainScope, Possible, PossibleScope}
use Rattle.acpi_conditions.proofs.Viewing.{any_along, certain_seen, certain_scope_seen, possible_seen, possible_scope_seen}
use Rattle.acpi_conditions.proofs.seen_along.SeenAlongStatuses.status.Goals as goal

pub returns-clause-certain : goal.returns-clause-certain
returns-clause-certain c =
    any_along Certain c.self.inside c.args.self.now c.args.path.now c.self.inside.turns.now c.entries-entries.result.now c.at.result.sights.now (is_something c.certain_of.result) c.self.view_is refl c.entries-entries.ensures c.at.ensures.sights c.certain_of.ensures.something
    ∙ certain_seen c.args.self.now.way c.args.self.now.entries c.args.path.now

pub returns-clause-certain_scope : goal.returns-clause-certain_scope
returns-clause-certain_scope c =
    any_along CertainScope c.self.inside c.args.self.now c.args.path.now c.self.inside.turns.now c.entries-entries.result.now c.at.result.sights.now (is_a_scope c.certain_of.result) c.self.view_is refl c.entries-entries.ensures c.at.ensures.sights c.certain_of.ensures.scope
    ∙ certain_scope_seen c.args.self.now.way c.args.self.now.entries c.args.path.now

pub returns-clause-possible : goal.returns-clause-possible
returns-clause-possible c =
    any_along Possible c.self.inside c.args.self.now c.args.path.now c.self.inside.turns.now c.entries-entries.result.now c.at.result.sights.now (is_something c.possible_of.result) c.self.view_is refl c.entries-entries.ensures c.at.ensures.sights c.possible_of.ensures.something
    ∙ possible_seen c.args.self.now.way c.args.self.now.entries c.args.path.now

pub returns-clause-possible_scope : goal.returns-clause-possible_scope
returns-clause-possible_scope c =
    any_along PossibleScope c.self.inside c.args.self.now c.args.path.now c.self.inside.turns.now c.entries-entries.result.now c.at.result.sights.now (is_a_scope c.possible_of.result) c.self.view_is refl c.entries-entries.ensures c.at.ensures.sights c.possible_of.ensures.scope
    ∙ possible_scope_seen c.args.self.now.way c.args.self.now.entries c.args.path.now
