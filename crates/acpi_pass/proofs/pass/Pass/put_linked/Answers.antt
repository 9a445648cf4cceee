use Rattle.std.proofs.Common.{◌∙◌}
use Rattle.acpi_pass.proofs.pass.Pass.put_linked.Goals as goal

pub returns-clause-links : goal.returns-clause-links
returns-clause-links g c = rw (← c.self.view_is) (c.in_ok-put.ensures.links ∙ c.in_ok-add_links_of.ensures)
