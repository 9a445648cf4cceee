use Rattle.std.proofs.Common.{◌≡◌, Some, None, slice_get, sym, ap, ◌∙◌}
use Rattle.std.specs.Option.{option_copied}
use Rattle.acpi_conditions.specs.Known.{settled}
use Rattle.acpi_conditions.specs.EntryForms.{entry_view}
use Rattle.acpi_conditions.proofs.WayTrees.{got_at}
use Rattle.acpi_conditions.proofs.SettledEntries.{viewed_there, none_viewed, settled_there, nothing_there}
use Rattle.acpi_conditions.proofs.walk.Walk.settled_at.Goals as goal

pub returns-in-Some : goal.returns-in-Some
returns-in-Some c =
    let at : slice_get c.self.inside.paths.entries c.args.number ≡ Some c.in-Some.entry.now =
    sym (got_at c.entries.result.now c.self.inside.paths.entries c.args.number c.get.result c.get.ensures.lookup c.entries.ensures) ∙ ap option_copied c.in-Some.is in
    settled_there settled (slice_get c.args.self.now.entries c.args.number) (entry_view c.self.inside.ways c.in-Some.entry.now) c.settled_by.result
    (viewed_there c.self.inside c.args.self.now c.args.number c.in-Some.entry.now c.self.view_is at) (c.settled_by.ensures c.self.inside.ways)

pub returns-in-None : goal.returns-in-None
returns-in-None c =
    let at : slice_get c.self.inside.paths.entries c.args.number ≡ None =
    sym (got_at c.entries.result.now c.self.inside.paths.entries c.args.number c.get.result c.get.ensures.lookup c.entries.ensures) ∙ ap option_copied c.in-None.is in
    nothing_there settled (slice_get c.args.self.now.entries c.args.number) (none_viewed c.self.inside c.args.self.now c.args.number c.self.view_is at)
