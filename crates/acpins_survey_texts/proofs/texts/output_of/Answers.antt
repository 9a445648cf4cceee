use Rattle.std.proofs.Common.{ℕ, List, Some, None, subst, sym}
use Rattle.acpi_findings.specs.declared.findings.Findings.{Findings}
use Rattle.acpi_survey.specs.declared.machine_survey.Survey.{Survey}
use Rattle.acpins_page.specs.Page.{IsPage}
use Rattle.acpins_page.specs.declared.style.TheConstants.{HEAD}
use Rattle.acpins_survey_words.specs.Words.{Command, listing, showing, using, mapping, telling_bodies, checking, differing, reporting, json, paging}
use Rattle.acpins_survey_run.specs.Prints.{IsPrintOf}
use Rattle.acpins_survey_run.specs.declared.printing.Print.TheVariants as prints
use Rattle.acpins_survey_texts.specs.Texts.{IsTextOf}
use Rattle.acpins_survey_texts.proofs.texts.output_of.Goals as goal

page_text : (command : Command) (s : Survey) (f : Findings) (text : List ℕ) → IsPrintOf command prints.Html → IsPage HEAD.now text → IsTextOf command s f text
page_text (paging out) s f text is page = page
page_text (listing bodies) s f text is page = absurd is
page_text (showing word) s f text is page = absurd is
page_text (using None) s f text is page = absurd is
page_text (using (Some word)) s f text is page = absurd is
page_text mapping s f text is page = absurd is
page_text telling_bodies s f text is page = absurd is
page_text (checking is_verbose ids) s f text is page = absurd is
page_text (differing is_verbose) s f text is page = absurd is
page_text (reporting is_verbose) s f text is page = absurd is
page_text json s f text is page = absurd is

pub returns-in_ok-page_of-in-Html-clause-ok : goal.returns-in_ok-page_of-in-Html-clause-ok
returns-in_ok-page_of-in-Html-clause-ok c = λ command is_print order.
    page_text command _ _ _ (subst (IsPrintOf command) c.in-Html.is is_print)
    (subst (IsPage HEAD.now) (sym c.with_status-in-Html.ensures.text) c.in_ok-page_of-in-Html.ensures)
