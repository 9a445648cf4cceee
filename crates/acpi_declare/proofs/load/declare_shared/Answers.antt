use Rattle.std.proofs.Common.{◌∙◌}
use Rattle.std.proofs.lemmas.Result.{IfOk-weaker}
use Rattle.acpi_pass.specs.Notes.{all_notes}
use Rattle.acpi_pass.specs.Predefined.{predefined}
use Rattle.acpi_declare.proofs.TableLists.{all_are_kept}
use Rattle.acpi_declare.proofs.load.declare_shared.Goals as goal

pub returns-clause-notes : goal.returns-clause-notes
returns-clause-notes g c =
    IfOk-weaker c.declare_keeping.result _ _
    (λ d n. record { placements = n.placements; listings = n.listings; notes_are = n.notes_are ∙ all_are_kept (all_notes predefined n.placements) })
    c.declare_keeping.ensures.notes
