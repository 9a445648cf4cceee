use Rattle.std.proofs.Common.{ℕ, ap₂, ◌∙◌}
use Rattle.acpi_conditions.specs.Entries.{Path}
use Rattle.acpi_conditions.specs.steps.Slots.{with_sight, kept_over}
use Rattle.acpi_conditions.specs.steps.Facts.{kept_in, paths_in}
use Rattle.acpi_conditions.proofs.KeptSlots.{path_within, path_got}
use Rattle.acpi_conditions.proofs.known_paths.put_entry.Goals as goal

pub put_sight-requires-clause-within : goal.put_sight-requires-clause-within
put_sight-requires-clause-within c = path_within c.args.slots.now.slots.items c.args.slot c.args.entry.path c.requires.slot

pub returns-in-Ok-clause-ok : goal.returns-in-Ok-clause-ok
returns-in-Ok-clause-ok c = λ p.
    c.in-Ok.ensures.ok p
    ∙ ap₂ (λ (q : Path) (n : ℕ). kept_over q (with_sight (record { number = n; is_scope = c.args.entry.term.is_scope })) (kept_in c.args.slots.now) p)
    (path_got (paths_in c.args.slots.now) c.args.slot c.args.entry.path c.requires.slot) (c.len-number.ensures ∙ c.args.entries.now.ok.0)
