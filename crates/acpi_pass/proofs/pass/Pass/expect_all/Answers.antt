use Rattle.acpi_pass.specs.Pending.{all_pending_of}
use Rattle.acpi_pass.specs.Notes.{notes_of}
use Rattle.acpi_pass.specs.steps.View.{pass_of}
use Rattle.acpi_tree.specs.View.{externals_view}
use Rattle.acpi_pass.proofs.StepLists.{expected_all}
use Rattle.acpi_pass.proofs.pass.Pass.expect_all.Goals as goal

pub returns-clause-steps : goal.returns-clause-steps
returns-clause-steps g c =
    let before = pass_of (record { objects = g.S.Space.contents c.self.inside.objects; lower = g.S.Space.lower c.self.inside.objects; links = all_pending_of c.self.inside.links.items; notes = c.self.inside.notes }) in
    rw (← c.self.view_is) (expected_all before (notes_of c.expect_all.new.self) c.args.scope.now (externals_view c.args.externals.now) c.in_ok-expect_all.ensures)
