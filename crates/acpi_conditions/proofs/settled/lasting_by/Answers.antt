use Rattle.std.proofs.Common.{[], cond, sym, ap, ◌∙◌}
use Rattle.acpi_conditions.specs.EntryForms.{entry_view}
use Rattle.acpi_conditions.specs.Known.{settled}
use Rattle.acpi_conditions.proofs.settled.lasting_by.Goals as goal

pub returns : goal.returns
returns c = c.settled_by.ensures c.args.ways.now ∙ ap (λ b. cond b (settled (entry_view c.args.ways.now c.args.entry.now)) []) (sym c.if-not-is_empty.false ∙ c.is_empty.ensures)
