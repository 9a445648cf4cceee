use Rattle.acpi_conditions.proofs.Tries.{ends_certain, ends_at_root, goes_on, shrinks}
use Rattle.acpi_conditions.proofs.searches.below_scopes.Goals as goal

pub returns-then-is_certain-clause-paths : goal.returns-then-is_certain-clause-paths
returns-then-is_certain-clause-paths g c = (ends_certain (g.S.Statuses.known c.args.known.now) c.args.seg c.args.scope.now c.loop-path.path c.push.new.self c.pop-outer.new.self c.loop-path.paths.items c.try_path.new.paths.items c.in_ok-is_certain.is_certain
    c.loop-path.invariant c.in_ok-push.ensures.ok c.pop-outer.ensures.parent c.in_ok-is_certain.ensures.certain c.in_ok-is_certain.ensures.paths c.if-is_certain.true).0

pub returns-then-is_certain-clause-certain : goal.returns-then-is_certain-clause-certain
returns-then-is_certain-clause-certain g c = (ends_certain (g.S.Statuses.known c.args.known.now) c.args.seg c.args.scope.now c.loop-path.path c.push.new.self c.pop-outer.new.self c.loop-path.paths.items c.try_path.new.paths.items c.in_ok-is_certain.is_certain
    c.loop-path.invariant c.in_ok-push.ensures.ok c.pop-outer.ensures.parent c.in_ok-is_certain.ensures.certain c.in_ok-is_certain.ensures.paths c.if-is_certain.true).1

pub returns-then-is_none-clause-paths : goal.returns-then-is_none-clause-paths
returns-then-is_none-clause-paths g c = (ends_at_root (g.S.Statuses.known c.args.known.now) c.args.seg c.args.scope.now c.loop-path.path c.push.new.self c.pop-outer.new.self c.loop-path.paths.items c.try_path.new.paths.items c.in_ok-is_certain.is_certain
    c.loop-path.invariant c.in_ok-push.ensures.ok c.pop-outer.ensures.parent c.in_ok-is_certain.ensures.certain c.in_ok-is_certain.ensures.paths
    c.if-is_certain.false c.pop-outer-in-loop-path.result c.is_none.result c.is_none.ensures c.if-is_none.true c.pop-outer-in-loop-path.ensures.last).0

pub returns-then-is_none-clause-certain : goal.returns-then-is_none-clause-certain
returns-then-is_none-clause-certain g c = (ends_at_root (g.S.Statuses.known c.args.known.now) c.args.seg c.args.scope.now c.loop-path.path c.push.new.self c.pop-outer.new.self c.loop-path.paths.items c.try_path.new.paths.items c.in_ok-is_certain.is_certain
    c.loop-path.invariant c.in_ok-push.ensures.ok c.pop-outer.ensures.parent c.in_ok-is_certain.ensures.certain c.in_ok-is_certain.ensures.paths
    c.if-is_certain.false c.pop-outer-in-loop-path.result c.is_none.result c.is_none.ensures c.if-is_none.true c.pop-outer-in-loop-path.ensures.last).1

pub loop-path-smaller : goal.loop-path-smaller
loop-path-smaller g c = shrinks (g.S.Statuses.known c.args.known.now) c.args.seg c.args.scope.now c.loop-path.path c.push.new.self c.pop-outer.new.self c.loop-path.paths.items c.try_path.new.paths.items c.in_ok-is_certain.is_certain
    c.loop-path.invariant c.in_ok-push.ensures.ok c.pop-outer.ensures.parent c.in_ok-is_certain.ensures.certain c.in_ok-is_certain.ensures.paths
    c.if-is_certain.false c.pop-outer-in-loop-path.result c.is_none.result c.pop-outer-in-loop-path.new.self c.is_none.ensures c.if-is_none.false c.pop-outer-in-loop-path.ensures.last c.pop-outer-in-loop-path.ensures.parent

pub loop-path-preserved : goal.loop-path-preserved
loop-path-preserved g c = goes_on (g.S.Statuses.known c.args.known.now) c.args.seg c.args.scope.now c.loop-path.path c.push.new.self c.pop-outer.new.self c.loop-path.paths.items c.try_path.new.paths.items c.in_ok-is_certain.is_certain
    c.loop-path.invariant c.in_ok-push.ensures.ok c.pop-outer.ensures.parent c.in_ok-is_certain.ensures.certain c.in_ok-is_certain.ensures.paths
    c.if-is_certain.false c.pop-outer-in-loop-path.result c.is_none.result c.pop-outer-in-loop-path.new.self c.is_none.ensures c.if-is_none.false c.pop-outer-in-loop-path.ensures.last c.pop-outer-in-loop-path.ensures.parent
