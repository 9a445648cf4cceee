use Rattle.acpins_records.proofs.Prefixes.{ends_below}
use Rattle.acpins_records.proofs.tree.tree_of.Goals as goal

pub returns-clause-ends : goal.returns-clause-ends
returns-clause-ends c k below = ends_below c.args.paths.now c.requires k _ (c.in_ok-ends.ensures.runs k below)
