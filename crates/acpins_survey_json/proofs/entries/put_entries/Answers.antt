use Rattle.acpi_condition_list.specs.ConditionLists.{conditioned_view}
use Rattle.acpi_condition_list.specs.declared.list.ConditionedEntry.{ConditionedEntry}
use Rattle.acpi_survey.specs.declared.machine_survey.Survey.{Survey}
use Rattle.acpins_survey_json.specs.Json.{Value}
use Rattle.acpins_survey_json.specs.JsonEntries.{entry_value}
use Rattle.acpins_survey_json.proofs.JsonPutting.{line_more, lines_all}
use Rattle.acpins_survey_json.proofs.entries.put_entries.Goals as goal

abbrev value_of : Survey → ConditionedEntry → Value
value_of s e = entry_value s (conditioned_view e)

pub loop-entry-preserved : goal.loop-entry-preserved
loop-entry-preserved c = λ o.
    line_more (value_of c.args.survey.now) c.args.entries.now c.loop-entry.entry-index c.entry-item.result c.entry-item.result c.loop-entry.is_first
    c.loop-entry.text c.put_line_start.new.text _ _ c.loop-entry-test.true c.entry-item.is c.put_line_start.ensures
    (c.in_ok-put_entry.ensures o) (c.loop-entry.invariant o)

pub returns : goal.returns
returns c = λ o.
    lines_all (value_of c.args.survey.now) c.args.entries.now c.loop-entry.entry-index c.loop-entry.is_first c.args.text.now
    c.put.new.self c.loop-entry.text _ c.loop-entry-test.false c.put.ensures (c.loop-entry.invariant o) c.put_lines_end.ensures
