use Rattle.std.proofs.Common.{length, sym, ap, ◌∙◌}
use Rattle.std.proofs.lemmas.List.{length-map}
use Rattle.acpi_conditions.specs.Entries.{Path}
use Rattle.acpi_conditions.specs.EntryForms.{term_view, entry_view}
use Rattle.acpi_conditions.specs.Walk.{Walk}
use Rattle.acpi_conditions.specs.declared.entry.Entry.{Entry}
use Rattle.acpi_conditions.specs.steps.Moves.{with_entry, entry_here}
use Rattle.acpi_conditions.specs.steps.Walks.{walk_of}
use Rattle.acpi_conditions.proofs.KeptWalks.{entry_put, entry_same}
use Rattle.acpi_conditions.proofs.walk.Walk.put.Goals as goal

pub invariant_of-self-2 : goal.invariant_of-self-2
invariant_of-self-2 c =
    let e : Entry = record { term = c.args.term; scope = c.in_ok-copy.field-0; path = c.args.target.path; way = c.self.inside.way; asks = c.args.target.asks } in
    entry_put c.self.inside c.self.invariant c.put.new.self e c.in_ok-number.ensures.ok c.self.invariant.way

pub returns-clause-walk : goal.returns-clause-walk
returns-clause-walk c =
    let e : Entry = record { term = c.args.term; scope = c.in_ok-copy.field-0; path = c.args.target.path; way = c.self.inside.way; asks = c.args.target.asks } in
    entry_same c.self.inside c.self.invariant c.put.new.self e c.in_ok-number.ensures.ok c.self.invariant.way
    ∙ ap (λ (s : Path). with_entry (record (entry_view c.self.inside.ways e) { scope = s }) (walk_of c.self.inside)) c.in_ok-copy.ensures
    ∙ ap (λ (w : Walk). with_entry (entry_here w (term_view c.args.term) c.args.target) w) c.self.view_is

pub returns-clause-number : goal.returns-clause-number
returns-clause-number c =
    c.in_ok-number.ensures.number ∙ sym (length-map c.self.inside.paths.entries (entry_view c.self.inside.ways)) ∙ ap (λ (w : Walk). length w.entries) c.self.view_is
