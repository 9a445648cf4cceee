use Rattle.std.proofs.Common.{◌∙◌, sym, refl, map, option_copied}
use Rattle.acpi_survey.specs.SourceViews.{source_of}
use Rattle.acpi_ranges.proofs.PlacedLists.{found_mapped, copied_mapped}
use Rattle.acpi_module_uses.proofs.names.source_at.Goals as goal

pub returns : goal.returns
returns c sorted =
    sym (copied_mapped source_of c.first_at.result)
    ∙ sym (found_mapped source_of (λ s. s.place) c.args.place c.args.sources.now (map source_of c.args.sources.now) (option_copied c.first_at.result) refl sorted c.first_at.ensures)
