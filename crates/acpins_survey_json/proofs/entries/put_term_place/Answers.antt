use Rattle.std.proofs.Common.{◌∙◌, None, ap, sym}
use Rattle.std.specs.Option.{option_map}
use Rattle.acpi_ranges.specs.Lookup.{found_of}
use Rattle.acpins_survey_json.specs.JsonEntries.{place_of}
use Rattle.acpins_survey_json.proofs.JsonPlaces.{no_place_put, nowhere_put, part_put}
use Rattle.acpins_survey_json.proofs.entries.put_term_place.Goals as goal

pub returns-in_default : goal.returns-in_default
returns-in_default c = λ found is.
    let place = place_of c.args.survey.now c.args.number in
    nowhere_put found place c.args.text.now _ (sym (ap (option_map found_of) c.in_default.is) ∙ is) (c.put_nowhere.ensures place)

pub returns-in-Some-place_at : goal.returns-in-Some-place_at
returns-in-Some-place_at c = λ found is.
    let place = place_of c.args.survey.now c.args.number in
    part_put found (found_of c.in-Some.part) c.in-Some-place_at.place place c.args.text.now _ (sym (ap (option_map found_of) c.in-Some.is) ∙ is) c.in-Some-place_at.ensures c.put_part.ensures

pub returns-in-None : goal.returns-in-None
returns-in-None c = λ found is.
    let place = place_of c.args.survey.now c.args.number in
    no_place_put found place c.args.text.now _ c.in-None.ensures (c.put_nowhere-in-None.ensures None)
