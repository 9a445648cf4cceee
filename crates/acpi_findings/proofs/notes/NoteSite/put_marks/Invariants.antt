use Rattle.std.proofs.Common.{◌≡◌, ◌++◌, drop}
use Rattle.acpi_findings.specs.Notes.{all_mark_reasons}
use Rattle.acpi_findings.specs.steps.MarkViews.{mark_views}
use Rattle.acpi_findings.specs.steps.NoteSiteViews.{notes_at}
use Rattle.acpi_findings.proofs.notes.NoteSite.put_marks.Given as goal

abbrev pub invariant-each : goal.invariant-each
invariant-each l =
    l.found.items ++ notes_at l.self (all_mark_reasons l.self.unknown.now (mark_views (drop l.mark-index l.marks)))
    ≡ l.initial.found.items ++ notes_at l.self (all_mark_reasons l.self.unknown.now (mark_views l.marks))
