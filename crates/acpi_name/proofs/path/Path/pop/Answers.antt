use Rattle.std.proofs.Common.{◌∙◌, ap}
use Rattle.acpi_name.specs.Paths.{parent_of}
use Rattle.std.specs.List.{last_or}
use Rattle.std.proofs.Common.{None}
use Rattle.acpi_name.proofs.Steps.{popped}
use Rattle.acpi_name.proofs.path.Path.pop.Goals as goal

pub returns-clause-last : goal.returns-clause-last
returns-clause-last c = (popped _ _ _ c.pop.ensures.items _ c.self.inside.segs.ok.0 c.pop.ensures.variant).0 ∙ ap (last_or None) c.self.view_is

pub returns-clause-parent : goal.returns-clause-parent
returns-clause-parent c = (popped _ _ _ c.pop.ensures.items _ c.self.inside.segs.ok.0 c.pop.ensures.variant).1 ∙ ap parent_of c.self.view_is
