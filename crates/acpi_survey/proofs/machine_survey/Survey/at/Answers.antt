use Rattle.std.proofs.Common.{rules, ◌≡◌, ◌∙◌, [], ap}
use Rattle.acpi_conditions.specs.Met.{Meeting}
use Rattle.acpi_survey.proofs.Numbers.{all_met}
use Rattle.acpi_survey.proofs.machine_survey.Survey.at.Goals as goal

pub returns : goal.returns
returns c =
    let m : Meeting = c.in_ok-met.met in
    let way : m.way ≡ [] = ap (λ (x : Meeting). x.way) c.in_ok-met.ensures ∙ c.empty.ensures.way in
    let entries : m.entries ≡ c.args.self.now.reading.walk.entries = ap (λ (x : Meeting). x.entries) c.in_ok-met.ensures ∙ c.entries-entries.ensures in
    let found = all_met m c.args.path.now c.args.self.now.reading.walk.entries way entries in
    search rules
