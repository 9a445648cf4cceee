use Rattle.std.proofs.Common.{◌≡◌, ◌∙◌, ℕ, List, [], Option, ◌++◌, append-nil, ap, codes, map, subst, sym}
use Rattle.std.specs.Borrow.{Bor}
use Rattle.std.specs.List.{AllZip}
use Rattle.acpi_conditions.specs.ByPath.{AreByPath, lent_pair}
use Rattle.acpi_conditions.specs.Entries.{Path, Entry}
use Rattle.acpi_condition_list.specs.ConditionLists.{IsCondition, conditioned_view, numbered_pair}
use Rattle.acpi_condition_list.specs.declared.list.ConditionStep.{ConditionStep}
use Rattle.acpi_condition_list.specs.declared.list.ConditionedEntry.{ConditionedEntry}
use Rattle.acpi_entries.specs.declared.body.MethodBody.{MethodBody}
use Rattle.acpi_survey.specs.declared.machine_survey.SurveyedTable.{SurveyedTable}
use Rattle.acpi_findings.specs.declared.notes.Note.{Note}
use Rattle.acpi_findings.specs.declared.problems.Problem.{Problem}
use Rattle.acpins_survey_json.specs.Json.{array_lines, elements, value_text, values_of}
use Rattle.acpins_survey_json.specs.JsonBodies.{body_values}
use Rattle.acpins_survey_json.specs.JsonConditions.{step_value}
use Rattle.acpins_survey_json.specs.JsonEntries.{entry_value}
use Rattle.acpins_survey_json.specs.JsonFound.{note_value, problem_value}
use Rattle.acpins_survey_json.specs.JsonFrame.{IsSurveyJson}
use Rattle.acpins_survey_json.specs.JsonTables.{table_values}
use Rattle.acpins_survey_json.specs.JsonValues.{number_value}
use Rattle.acpins_survey_reasons.specs.Numbered.{IsBodyAt, entries_of, zip_text}
use Rattle.acpins_survey_json.proofs.JsonFraming.{PutsBodies, number_lines, piece_put}
use Rattle.acpins_survey_json.proofs.JsonPutting.{values_mapped}
use Rattle.acpins_survey_reasons.proofs.Ordering.{same_paths}
use Rattle.acpins_survey_json.proofs.frame.put_survey.Goals as goal

pub returns : goal.returns
returns c = λ o.
    let s = c.args.survey.now in
    let f = c.args.findings.now in
    let order = c.in_ok-order.order.items in
    let pairs = map lent_pair order in
    let xs = c.in_ok-conditions.conditions.entries.items in
    let steps_of = c.in_ok-conditions.conditions.steps.items in
    let es = map conditioned_view xs in
    let paths = same_paths _ _ _ c.entries.ensures in
    let same : map numbered_pair es ≡ pairs = c.in_ok-conditions.ensures.entries ∙ ap (map lent_pair) c.deref.ensures.value in
    let put_all = subst (λ (ys : List (Bor Path × ℕ)). PutsBodies s ys c.put-4.new.self c.put_bodies.new.text) c.deref-4.ensures.value (c.in_ok-put_bodies.ensures o) in
    let bs = put_all.0 in
    let old = c.args.text.now in
    let start = codes "{\n\"format\":\"acpins-survey 2\",\n\"depth\":" in
    let depth = value_text (number_value s.depth) in
    let tables = array_lines (table_values 0 s.tables.items) in
    let entries = array_lines (values_of (entry_value s) es) in
    let bodies = array_lines (elements (zip_text (body_values s) (map numbered_pair es) bs)) in
    let problems = array_lines (values_of problem_value f.problems.items) in
    let notes = array_lines (values_of note_value f.notes.items) in
    let steps = array_lines (values_of (step_value s) steps_of) in
    let e7 = codes ",\n\"conditions\":" ++ (steps ++ []) in
    let e6 = codes ",\n\"notes\":" ++ (notes ++ e7) in
    let e5 = codes ",\n\"problems\":" ++ (problems ++ e6) in
    let e4 = codes ",\n\"bodies\":" ++ (bodies ++ e5) in
    let e3 = codes ",\n\"entries\":" ++ (entries ++ e4) in
    let e2 = codes ",\n\"tables\":" ++ (tables ++ e3) in
    let depth_put = c.put_number.ensures ∙ ap (λ (n : ℕ). c.put.new.self ++ value_text (number_value n)) (c.from.ensures ∙ c.get.ensures.number) in
    let tables_put = c.put_tables.ensures ∙ ap (λ (ts : List SurveyedTable). c.put-2.new.self ++ array_lines (table_values 0 ts)) c.deref-2.ensures.value in
    let entries_put = c.in_ok-put_entries.ensures o
    ∙ ap (λ (ys : List ConditionedEntry). c.put-3.new.self ++ array_lines (values_of (λ e. entry_value s (conditioned_view e)) ys)) c.deref-3.ensures.value
    ∙ ap (λ vs. c.put-3.new.self ++ array_lines vs) (sym (values_mapped (entry_value s) conditioned_view xs)) in
    let bodies_put = put_all.2 ∙ ap (λ (ps : List (Path × ℕ)). c.put-4.new.self ++ array_lines (elements (zip_text (body_values s) ps bs))) (sym same) in
    let problems_put = c.put_problems.ensures ∙ ap (λ (ps : List Problem). c.put-5.new.self ++ array_lines (values_of problem_value ps)) c.problems.ensures in
    let notes_put = c.put_notes.ensures ∙ ap (λ (ns : List Note). c.put-6.new.self ++ array_lines (values_of note_value ns)) c.notes.ensures in
    let steps_put = c.in_ok-put_conditions.ensures o ∙ ap (λ (ys : List ConditionStep). c.put-7.new.self ++ array_lines (values_of (step_value s) ys)) c.deref-5.ensures.value in
    let put = sym (append-nil c.put_conditions.new.text)
    ∙ piece_put c.put-7.new.self steps _ [] steps_put
    ∙ piece_put c.put_notes.new.text (codes ",\n\"conditions\":") _ (steps ++ []) c.put-7.ensures
    ∙ piece_put c.put-6.new.self notes _ e7 notes_put
    ∙ piece_put c.put_problems.new.text (codes ",\n\"notes\":") _ (notes ++ e7) c.put-6.ensures
    ∙ piece_put c.put-5.new.self problems _ e6 problems_put
    ∙ piece_put c.put_bodies.new.text (codes ",\n\"problems\":") _ (problems ++ e6) c.put-5.ensures
    ∙ piece_put c.put-4.new.self bodies _ e5 bodies_put
    ∙ piece_put c.put_entries.new.text (codes ",\n\"bodies\":") _ (bodies ++ e5) c.put-4.ensures
    ∙ piece_put c.put-3.new.self entries _ e4 entries_put
    ∙ piece_put c.put_tables.new.text (codes ",\n\"entries\":") _ (entries ++ e4) c.put-3.ensures
    ∙ piece_put c.put-2.new.self tables _ e3 tables_put
    ∙ piece_put c.put_number.new.text (codes ",\n\"tables\":") _ (tables ++ e3) c.put-2.ensures
    ∙ piece_put c.put.new.self depth _ e2 depth_put
    ∙ piece_put old start _ (depth ++ e2) c.put.ensures in
    let is : IsSurveyJson s f (start ++ (depth ++ e2)) = record {
      entries = xs;
      by_path = subst (λ (ps : List (Path × ℕ)). AreByPath (map (λ (e : Entry). e.path) (entries_of s)) ps) (sym same) (subst (λ ps. AreByPath ps pairs) paths c.in_ok-order.ensures);
      steps = steps_of;
      are_conditions = c.in_ok-conditions.ensures.conditions o;
      bodies = bs;
      are_bodies = subst (λ (ps : List (Path × ℕ)). AllZip (λ (x : Path × ℕ) (b : Option MethodBody). IsBodyAt s x.1 b) ps bs) (sym same) put_all.1;
      text_is = ap (λ d. start ++ (d ++ e2)) (sym (number_lines s.depth));
    } in
    (start ++ (depth ++ e2), put, is)
