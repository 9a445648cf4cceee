-- What a wrong body leaves open is named here: its refusal then names it, and needs no second search.
use Rattle.std.proofs.Common.{rules}
use Rattle.acpi_pass.proofs.notes.TableNotes.add_missed.Goals as goal

pub returns : goal.returns
returns c = search rules
