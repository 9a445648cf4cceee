use Rattle.std.proofs.Common.{ap, ◌∙◌}
use Rattle.std.specs.FinMap.{get}
use Rattle.acpi_pass.specs.Notes.{notes_of}
use Rattle.acpi_pass.proofs.Unions.{counts_with_first}
use Rattle.acpi_pass.proofs.notes.TableNotes.add_count.Goals as goal

pub returns : goal.returns
returns c =
    let before = notes_of c.args.self.now in
    λ i. record { counts = (ap get c.in_ok-add.ensures.ok ∙ counts_with_first c.args.self.now.counts c.args.path c.args.count) i; methods = before.methods; missed = before.missed }
