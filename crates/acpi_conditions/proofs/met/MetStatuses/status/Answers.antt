use Rattle.acpi_conditions.specs.Presences.{is_something, is_a_scope}
use Rattle.acpi_conditions.proofs.Meetings.{possible_met, possible_scope_met}
use Rattle.acpi_conditions.proofs.met.MetStatuses.status.Goals as goal

pub returns-clause-possible : goal.returns-clause-possible
returns-clause-possible c =
    possible_met c.self.inside c.args.self.now c.args.path.now c.deref.result.now (is_something c.possible_of.result) c.self.view_is c.deref.ensures.value c.entries-entries.result.now c.at-here.result.sights.now c.entries-entries.ensures c.at-here.ensures.sights c.possible_of.ensures.something

pub returns-clause-possible_scope : goal.returns-clause-possible_scope
returns-clause-possible_scope c =
    possible_scope_met c.self.inside c.args.self.now c.args.path.now c.deref.result.now (is_a_scope c.possible_of.result) c.self.view_is c.deref.ensures.value c.entries-entries.result.now c.at-here.result.sights.now c.entries-entries.ensures c.at-here.ensures.sights c.possible_of.ensures.scope
