use Rattle.acpi_tree.specs.TermView.{term_view}
use Rattle.acpins_survey_json.specs.JsonValues.{term_value}
use Rattle.acpins_survey_json.proofs.JsonPutting.{member_said}
use Rattle.acpins_survey_json.proofs.members.put_value_member.Goals as goal

pub returns : goal.returns
returns c =
    member_said c.args.start.now c.args.name.now (term_value (term_view c.args.term.now)) c.args.text.now _ _ c.put_member.ensures c.put_value.ensures
