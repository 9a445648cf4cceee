use Rattle.std.proofs.Common.{◌≡◌, Result, Ok, Err, IfOk, map}
use Rattle.acpi_body_notes.specs.LoadNotes.{AreSurveyNotes}
use Rattle.acpi_findings.specs.Findings.{problems_in}
use Rattle.acpi_findings.specs.ProblemViews.{problem_view}
use Rattle.acpi_findings.specs.declared.findings.Findings.{Findings}
use Rattle.acpi_survey.specs.declared.machine_survey.Survey.{Survey}
use Rattle.acpins_survey_texts.specs.Texts.{AreFindings}
use Rattle.acpins_survey_texts.proofs.texts.findings_in.Goals as goal

both : {E : Type 0} (s : Survey) (r : Result Findings E) → IfOk r (λ f. map problem_view f.problems.items ≡ problems_in s.reading s.tables.items) → IfOk r (λ f. AreSurveyNotes s f.notes.items) → IfOk r (AreFindings s)
both s (Ok f) problems notes = record { problems = problems; notes = notes }
both s (Err e) problems notes = tt

pub returns : goal.returns
returns c = λ o. both c.args.survey.now c.findings_of.result c.findings_of.ensures.problems (c.findings_of.ensures.notes o.tile)
