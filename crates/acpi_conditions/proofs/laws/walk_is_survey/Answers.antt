use Rattle.acpi_conditions.proofs.Walks.{gives_nodes, empty_else_is_none, walk_is_surveys}
use Rattle.acpi_conditions.proofs.laws.walk_is_survey.Goals as goal

pub returns-clause-nodes : goal.returns-clause-nodes
returns-clause-nodes c = gives_nodes

pub returns-clause-no_else : goal.returns-clause-no_else
returns-clause-no_else c = empty_else_is_none

pub returns-clause-tables : goal.returns-clause-tables
returns-clause-tables c = walk_is_surveys
