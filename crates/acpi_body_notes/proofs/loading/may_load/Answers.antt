use Rattle.std.proofs.Common.{◌∙◌, Option, None, refl, sym, ap}
use Rattle.std.specs.Option.{option_and_then}
use Rattle.acpi_entries.specs.EntryBodies.{method_code}
use Rattle.acpi_ranges.specs.EntryParts.{part_declaring}
use Rattle.acpi_ranges.specs.Lookup.{Found, found_of}
use Rattle.acpi_ranges.proofs.DeclaringParts.{part_none}
use Rattle.acpi_body_notes.specs.steps.LoadCodes.{code_holds_load}
use Rattle.acpi_body_notes.proofs.LoadingBodies.{part_is}
use Rattle.acpi_body_notes.proofs.loading.may_load.Goals as goal

pub returns-in-Some : goal.returns-in-Some
returns-in-Some c = λ tile.
    let s = c.args.survey.now in
    let part : Option Found = part_declaring s.tables.items s.reading.walk.entries c.args.number in
    c.part_holds_load.ensures ∙ ap (λ (p : Option Found). code_holds_load (option_and_then method_code p)) (part_is (found_of c.in-Some.part) part (c.in-Some.ensures tile))

pub returns-in-None : goal.returns-in-None
returns-in-None c = λ tile.
    let s = c.args.survey.now in
    let part : Option Found = part_declaring s.tables.items s.reading.walk.entries c.args.number in
    ap (λ (p : Option Found). code_holds_load (option_and_then method_code p)) (sym (part_none None part (c.in-None.ensures tile) refl))
