use Rattle.std.specs.Option.{option_map}
use Rattle.acpi_tree.specs.TermView.{term_view}
use Rattle.acpins_survey_json.specs.JsonValues.{printed_term, value_or_null}
use Rattle.acpins_survey_json.proofs.JsonPutting.{member_said}
use Rattle.acpins_survey_json.proofs.members.put_some_term_member.Goals as goal

pub returns : goal.returns
returns c =
    member_said c.args.start.now c.args.name.now (value_or_null printed_term (option_map (λ t. term_view t.now) c.args.term)) c.args.text.now _ _ c.put_member.ensures c.put_some_term.ensures
