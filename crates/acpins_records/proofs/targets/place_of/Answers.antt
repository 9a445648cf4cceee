use Rattle.std.proofs.Common.{arith, sym, refl, ◌∙◌}
use Rattle.acpins_records.proofs.Places.{at_place, before_more, behind_more, no_place}
use Rattle.acpins_records.proofs.targets.place_of.Goals as goal

pub loop-low-preserved-in-Less : goal.loop-low-preserved-in-Less
loop-low-preserved-in-Less c = record {
  within = c.loop-low.invariant.within;
  before = before_more c.args.paths.now c.args.segs.now c.at.result.now _ c.requires c.at.ensures (sym c.cmp.ensures ∙ c.in-Less.is);
  behind = c.loop-low.invariant.behind;
}

pub returns-in-Equal : goal.returns-in-Equal
returns-in-Equal c = at_place c.args.paths.now c.args.segs.now c.at.result.now _ c.at.ensures (sym c.cmp.ensures ∙ c.in-Equal.is)

pub loop-low-preserved : goal.loop-low-preserved
loop-low-preserved c = record {
  within = omega (arith, c.loop-low.invariant.within, c.loop-low-test.true);
  before = c.loop-low.invariant.before;
  behind = behind_more c.args.paths.now c.args.segs.now c.at.result.now _ c.requires c.at.ensures (sym c.cmp.ensures ∙ c.in-Greater.is);
}

pub returns : goal.returns
returns c = no_place c.args.paths.now c.args.segs.now c.loop-low.low c.loop-low.high _ c.loop-low-test.false refl c.loop-low.invariant.before c.loop-low.invariant.behind
