use Rattle.std.proofs.Common.{sym, ◌∙◌, ap}
use Rattle.std.specs.Option.{option_copied}
use Rattle.acpi_space.proofs.Trails.{trail_end-last}
use Rattle.acpi_space.proofs.trail.end.Goals as goal

pub returns-in-Some : goal.returns-in-Some
returns-in-Some c = sym (trail_end-last 0 c.args.trail.now c.in-Some.mark.now (sym c.last.ensures.value ∙ ap option_copied c.in-Some.is))
