use Rattle.acpi_pass.specs.Pending.{all_pending_of}
use Rattle.acpi_pass.specs.steps.View.{pass_of}
use Rattle.acpi_pass.proofs.PassSteps.{with_links}
use Rattle.acpi_pass.proofs.pass.Pass.add_units.Goals as goal

pub returns-clause-units : goal.returns-clause-units
returns-clause-units g c =
    let before = pass_of (record { objects = g.S.Space.contents c.self.inside.objects; lower = g.S.Space.lower c.self.inside.objects; links = all_pending_of c.self.inside.links.items; notes = c.self.inside.notes }) in
    rw (← c.self.view_is) (with_links before _ _ c.in_ok-add_links.ensures)
