use Rattle.std.proofs.Common.{ℕ, List, ◌++◌, ◌∙◌, subst, ap, ap₂}
use Rattle.acpi_findings.specs.FindingsOrder.{AreBySite}
use Rattle.acpi_findings.specs.declared.notes.Note.{Note}
use Rattle.acpi_body_notes.specs.LoadNotes.{load_notes}
use Rattle.acpi_body_notes.proofs.notes.findings_of.Goals as goal

pub returns-clause-notes : goal.returns-clause-notes
returns-clause-notes c = λ tile. record {
  loading = c.in_ok-loading.loading.items;
  are_loading = c.in_ok-loading.ensures tile;
  by_site = subst (λ (ns : List Note). AreBySite ns c.add_notes.new.self.notes.items)
      (ap₂ (λ (x y : List Note). x ++ y) c.in_ok-found.ensures.notes
      (c.in_ok-notes_of.ensures ∙ ap (λ (ns : List ℕ). load_notes c.args.survey.now.reading.walk.entries ns) c.deref.ensures.value))
      c.in_ok-add_notes.ensures.notes;
}
