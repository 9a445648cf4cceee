use Rattle.std.proofs.Common.{◌∙◌, codes, subst}
use Rattle.acpi_objects.specs.Declaring.{object_of}
use Rattle.acpins_survey_json.specs.Json.{array, member, more_members_text, values_of}
use Rattle.acpins_survey_json.specs.JsonEntries.{link_value, place_of, term_members}
use Rattle.acpins_survey_json.specs.JsonObjects.{kind_members}
use Rattle.acpins_survey_json.specs.JsonValues.{number_value, value_or_null}
use Rattle.acpins_survey_reasons.specs.Numbered.{links_of, part_of}
use Rattle.acpi_objects.specs.Objects.{ObjectParts}
use Rattle.acpins_survey_json.specs.steps.JsonPuts.{PutsMembers}
use Rattle.acpins_survey_json.proofs.JsonPutting.{closed_put}
use Rattle.acpins_survey_json.proofs.entries.put_entry.Goals as goal

pub returns : goal.returns
returns c = λ o.
    let s = c.args.survey.now in
    let n = c.args.entry.now.number in
    let is = c.part_of-part.ensures o.tile in
    let place = term_members (part_of s n) (place_of s n) in
    let lists = member (codes "links") (array (values_of link_value (links_of s n))) (member (codes "condition") (value_or_null number_value c.args.entry.now.condition) place) in
    let object = object_of (part_of s n) n in
    let said = subst (λ (x : ObjectParts). PutsMembers (kind_members x) c.put_path_member.new.text c.put_object.new.text) (c.object_kind-kind.ensures (part_of s n) is)
    c.put_object.ensures in
    closed_put c.args.text.now _ _ (more_members_text place) _
    (c.in_ok-put_lists.ensures o is place ∙ said lists ∙ c.put_path_member.ensures (kind_members object lists)) (c.put_term_place.ensures (part_of s n) is)
