use Rattle.std.proofs.Common.{ℕ, List, length, sym, ap, subst, arith}
use Rattle.acpi_conditions.specs.EntryForms.{entry_view}
use Rattle.acpi_body_notes.specs.LoadNotes.{LoadsTables}
use Rattle.acpi_body_notes.proofs.Collecting.{AreBelow, none_below}
use Rattle.acpi_body_notes.proofs.LoadingBodies.{put_below, all_loading, as_long}
use Rattle.acpi_body_notes.proofs.loading.loading_methods.Goals as goal

pub each-init : goal.each-init
each-init c = λ tile. subst (λ (ns : List ℕ). AreBelow (LoadsTables c.args.survey.now) 0 ns) (sym c.new-found.ensures.items) (none_below (LoadsTables c.args.survey.now))

pub each-preserved : goal.each-preserved
each-preserved c = λ tile.
    put_below c.args.survey.now c.each.number c.in_ok-is_loading.is_loading c.each.found.items _ (c.in_ok-is_loading.ensures tile) c.in_ok-put_if.ensures (c.each.invariant tile)

pub returns : goal.returns
returns c = λ tile.
    let s = c.args.survey.now in
    let long = as_long (entry_view c.entries.result.ways.now) c.entries.result.paths.now.entries s.reading.walk.entries c.entries.ensures in
    all_loading s c.each.number c.each.found.items (omega (arith, long, ap length c.entries-entries.ensures)) (c.each.invariant tile)
