use Rattle.std.proofs.Common.{◌++◌, Option, slice_get, ap, ◌∙◌}
use Rattle.std.specs.Option.{option_map}
use Rattle.acpi_conditions.specs.Entries.{Path}
use Rattle.acpi_conditions.specs.Walk.{Walk}
use Rattle.acpi_conditions.specs.steps.Moves.{with_certain}
use Rattle.acpi_conditions.specs.steps.Settled.{certain_there}
use Rattle.acpi_conditions.specs.steps.Walks.{walk_of}
use Rattle.acpi_conditions.proofs.KeptWalks.{certain_kept, certain_same}
use Rattle.acpi_conditions.proofs.SettledEntries.{path_viewed}
use Rattle.acpi_conditions.proofs.walk.Walk.certify_entry.Goals as goal

pub invariant_of-self-2 : goal.invariant_of-self-2
invariant_of-self-2 c =
    certain_kept c.self.inside c.self.invariant c.certify_entry.new.self (certain_there c.args.presence (option_map (λ e. e.path) (slice_get c.self.inside.paths.entries c.args.number))) c.in_ok-certify_entry.ensures.ok

pub returns : goal.returns
returns c =
    certain_same c.self.inside c.self.invariant c.certify_entry.new.self (certain_there c.args.presence (option_map (λ e. e.path) (slice_get c.self.inside.paths.entries c.args.number))) c.in_ok-certify_entry.ensures.ok
    ∙ ap (λ (o : Option Path). with_certain (certain_there c.args.presence o ++ c.self.inside.paths.certain) (walk_of c.self.inside)) (path_viewed c.self.inside.ways c.self.inside.paths.entries c.args.number)
    ∙ ap (λ (w : Walk). with_certain (certain_there c.args.presence (option_map (λ e. e.path) (slice_get w.entries c.args.number)) ++ w.known.certain) w) c.self.view_is
