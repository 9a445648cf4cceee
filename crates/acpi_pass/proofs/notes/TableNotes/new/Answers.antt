use Rattle.std.proofs.Common.{map, ap, ◌∙◌}
use Rattle.std.specs.FinMap.{get}
use Rattle.acpi_pass.specs.Notes.{method_of}
use Rattle.acpi_pass.proofs.Unions.{counts-empty}
use Rattle.acpi_pass.proofs.notes.TableNotes.new.Goals as goal

pub returns : goal.returns
returns c = λ i. record { counts = (ap get c.new.ensures ∙ counts-empty) i; methods = ap (map method_of) c.new-2.ensures.items i; missed = c.new-3.ensures.items i }
