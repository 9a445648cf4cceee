-- The notes of a node.
use Rattle.std.specs.Prelude.{List, map}
use Rattle.acpi_findings.specs.Notes.{Noticed, note_at}
use Rattle.acpi_ranges.specs.SpanViews.{scope_of}
use Rattle.acpi_findings.specs.declared.notes.Note.{Note}
use Rattle.acpi_findings.specs.declared.notes.NoteSite.{NoteSite}

abbrev pub notes_at : NoteSite → List Noticed → List Note
notes_at x noticed = map (note_at x.number (scope_of x.around)) noticed
