use Rattle.std.proofs.Common.{rules, ◌≡◌, ◌∙◌, map, ap}
use Rattle.acpi_conditions.specs.EntryForms.{entry_view}
use Rattle.acpi_survey.proofs.Numbers.{all_below}
use Rattle.acpi_survey.proofs.machine_survey.Survey.below.Goals as goal

pub returns : goal.returns
returns c =
    let ways = c.entries-entries.result.ways.now in
    let found = all_below c.args.path.now ways c.entries.result.now c.args.self.now.reading.walk.entries (ap (map (entry_view ways)) c.entries.ensures ∙ c.entries-entries.ensures) in
    search rules
