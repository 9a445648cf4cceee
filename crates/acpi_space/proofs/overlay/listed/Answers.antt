use Rattle.acpi_space.proofs.Laid.{listed_seen}
use Rattle.acpi_space.proofs.overlay.listed.Goals as goal

pub returns : goal.returns
returns g c =
    listed_seen c.loop-path.list.items _ _ c.args.pairs.entries c.loop-path.invariant c.in-None.ensures.steps.0 c.into_iter-path-iterator.ensures.into_iter_gives.0
    c.into_iter-path-iterator.ensures.into_iter_gives.5
