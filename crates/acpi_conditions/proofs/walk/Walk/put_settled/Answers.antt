use Rattle.std.proofs.Common.{◌++◌, slice_get, ap, ◌∙◌}
use Rattle.std.specs.List.{flat_map}
use Rattle.std.specs.Option.{option_to_list}
use Rattle.acpi_conditions.specs.Entries.{Entry}
use Rattle.acpi_conditions.specs.Known.{settled}
use Rattle.acpi_conditions.specs.EntryForms.{term_view}
use Rattle.acpi_conditions.specs.Walk.{Walk}
use Rattle.acpi_conditions.specs.steps.Moves.{with_certain, entry_here}
use Rattle.acpi_conditions.proofs.WalkSteps.{on_ok_map}
use Rattle.acpi_conditions.proofs.SettledEntries.{last_settled}
use Rattle.acpi_conditions.proofs.walk.Walk.put_settled.Goals as goal

pub returns : goal.returns
returns c =
    let w : Walk = c.args.self.now in
    let e : Entry = entry_here w (term_view c.args.term) c.args.target in
    let number = c.in_ok-number.number in
    on_ok_map c.settle.result _ _
    (λ is. is ∙ ap (λ (v : Walk). with_certain (flat_map settled (option_to_list (slice_get v.entries number)) ++ v.known.certain) v) c.in_ok-number.ensures.walk
    ∙ last_settled w e number c.in_ok-number.ensures.number) c.settle.ensures
