use Rattle.std.proofs.Common.{◌≡◌}
use Rattle.acpins_run.proofs.Cutting.{SoFar}
use Rattle.acpins_run.proofs.tables.cut.Given as goal

abbrev pub invariant-loop : goal.invariant-loop
invariant-loop g l = record {
  cut : SoFar (g.S.Source.coming l.fn.source) (g.S.Source.coming l.source) l.fn.tables.items l.tables.items;
  kept : g.S.Source.failures l.source ≡ g.S.Source.failures l.fn.source;
}
