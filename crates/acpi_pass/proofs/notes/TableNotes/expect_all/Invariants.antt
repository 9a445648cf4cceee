use Rattle.std.proofs.Common.{◌≡◌, true, drop}
use Rattle.std.specs.List.{list_all}
use Rattle.acpi_tree.specs.Fits.{external_fits}
use Rattle.acpi_tree.specs.View.{externals_view}
use Rattle.acpi_pass.specs.Notes.{notes_of}
use Rattle.acpi_pass.specs.steps.View.{counts_said, with_counts}
use Rattle.acpi_pass.proofs.notes.TableNotes.expect_all.Given as goal

abbrev pub invariant-loop-external : goal.invariant-loop-external
invariant-loop-external l =
    (with_counts (notes_of l.self) (counts_said l.scope (externals_view (drop l.external-index l.externals)))
    ≡ with_counts (notes_of l.initial.self) (counts_said l.scope (externals_view l.externals)))
    × (list_all external_fits (externals_view (drop l.external-index l.externals)) ≡ true)
