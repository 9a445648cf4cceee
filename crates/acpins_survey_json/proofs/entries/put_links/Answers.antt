use Rattle.std.proofs.Common.{refl, codes}
use Rattle.acpi_entries.specs.ConditionViews.{link_views}
use Rattle.acpins_survey_json.specs.JsonEntries.{link_value}
use Rattle.acpins_survey_json.proofs.JsonPutting.{list_said}
use Rattle.acpins_survey_json.proofs.entries.put_links.Goals as goal

pub returns : goal.returns
returns c = list_said (codes "links") link_value _ (link_views c.args.links.now) _ _ _ refl c.put_member.ensures c.put_link_list.ensures
