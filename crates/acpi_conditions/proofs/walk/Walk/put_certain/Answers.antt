use Rattle.std.proofs.Common.{List, ◌++◌, slice_get, ap, ◌∙◌}
use Rattle.std.specs.Option.{option_map}
use Rattle.acpi_conditions.specs.Entries.{Entry}
use Rattle.acpi_conditions.specs.Known.{Certain}
use Rattle.acpi_conditions.specs.EntryForms.{term_view}
use Rattle.acpi_conditions.specs.Walk.{Walk}
use Rattle.acpi_conditions.specs.steps.Moves.{with_certain, with_entry, entry_here}
use Rattle.acpi_conditions.specs.steps.Settled.{certain_at, certain_there}
use Rattle.acpi_conditions.proofs.WalkSteps.{on_ok_map}
use Rattle.acpi_conditions.proofs.SettledEntries.{raised_there, last_certified}
use Rattle.acpi_conditions.proofs.walk.Walk.put_certain.Goals as goal

pub returns : goal.returns
returns c =
    let w : Walk = c.args.self.now in
    let e : Entry = entry_here w (term_view c.args.term) c.args.target in
    let presence = c.raised-presence.result in
    let number = c.in_ok-number.number in
    on_ok_map c.certify_entry.result _ _
    (λ is. is ∙ ap (λ (v : Walk). with_certain (certain_there presence (option_map (λ e. e.path) (slice_get v.entries number)) ++ v.known.certain) v) c.in_ok-number.ensures.walk
    ∙ last_certified w e number c.in_ok-number.ensures.number presence
    ∙ ap (λ (cs : List Certain). with_certain (cs ++ w.known.certain) (with_entry e w)) (ap (certain_at c.args.target.path) c.raised-presence.ensures ∙ raised_there c.args.term.is_scope c.args.target.path)) c.certify_entry.ensures
