use Rattle.std.proofs.Common.{inl, ap, Some, ◌∙◌}
use Rattle.acpins_records.proofs.Runs.{parent_is}
use Rattle.acpins_records.proofs.tree.parent_place.Goals as goal

pub returns-then-is_same : goal.returns-then-is_same
returns-then-is_same c =
    parent_is c.args.paths.now c.args.k _ c.at.result.now c.in-Some.above.now c.in-Some.field-0-0.now c.at.ensures c.in-Some.ensures.cases.0
    (inl (c.at-in-loop-near.ensures ∙ ap Some (c.is_same.ensures.0 c.if-is_same.true)))

pub returns : goal.returns
returns c =
    parent_is c.args.paths.now c.args.k _ c.at.result.now c.in-Some.above.now c.in-Some.field-0-0.now c.at.ensures c.in-Some.ensures.cases.0 c.place_of.ensures
