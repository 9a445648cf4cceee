use Rattle.std.proofs.Common.{◌≡◌, ◌∙◌, List, ap, codes, subst}
use Rattle.acpi_entries.specs.ConditionViews.{link_views}
use Rattle.acpi_entries.specs.EntryLinks.{LinkParts}
use Rattle.acpins_survey_json.specs.Json.{array, member, values_of}
use Rattle.acpins_survey_json.specs.JsonEntries.{link_value}
use Rattle.acpins_survey_json.specs.JsonValues.{number_value, value_or_null}
use Rattle.acpins_survey_json.specs.steps.JsonPuts.{PutsMembers}
use Rattle.acpins_survey_reasons.specs.Numbered.{links_of, part_of}
use Rattle.acpins_survey_json.proofs.entries.put_lists.Goals as goal

pub returns : goal.returns
returns c = λ o is ms.
    let s = c.args.survey.now in
    let n = c.args.entry.now.number in
    let links = ap link_views c.deref.ensures.value ∙ c.in_ok-links.ensures o (part_of s n) is in
    let said = subst (λ (ls : List LinkParts). PutsMembers (member (codes "links") (array (values_of link_value ls))) c.args.text.now c.put_links.new.text) links c.put_links.ensures in
    c.put_some_number_member.ensures ms ∙ said (member (codes "condition") (value_or_null number_value c.args.entry.now.condition) ms)
