use Rattle.std.proofs.Common.{◌∙◌, sym, refl, option_copied}
use Rattle.acpi_survey.specs.steps.Readings.{opened_pairs}
use Rattle.acpi_ranges.proofs.PlacedLists.{found_mapped, copied_mapped}
use Rattle.acpi_entries.proofs.placed.scope_at.Goals as goal

pub returns : goal.returns
returns c sorted =
    sym (copied_mapped (λ o. (o.place, o.path)) c.first_at.result)
    ∙ sym (found_mapped (λ o. (o.place, o.path)) (λ o. o.0) c.args.place c.args.opened.now (opened_pairs c.args.opened.now) (option_copied c.first_at.result) refl sorted c.first_at.ensures)
