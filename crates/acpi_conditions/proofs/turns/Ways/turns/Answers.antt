use Rattle.acpi_conditions.specs.Turns.{way_of}
use Rattle.acpi_conditions.proofs.WayTrees.{turns_more, turns_all, no_turns_yet}
use Rattle.acpi_conditions.proofs.turns.Ways.turns.Goals as goal

pub loop-last-init : goal.loop-last-init
loop-last-init c = no_turns_yet (way_of c.args.self.now c.args.way) c.new-turns.result.items c.new-turns.ensures.items

pub loop-last-smaller : goal.loop-last-smaller
loop-last-smaller c = c.in-Some.ensures.before

pub loop-last-preserved : goal.loop-last-preserved
loop-last-preserved c =
    turns_more (way_of c.args.self.now c.args.way) (way_of c.args.self.now c.loop-last.way) (way_of c.args.self.now c.in-Some.last.before) c.loop-last.turns.items c.push.new.self.items c.in-Some.last.turn
    c.loop-last.invariant c.in-Some.ensures.turn c.in_ok-push.ensures.items

pub returns : goal.returns
returns c = turns_all (way_of c.args.self.now c.args.way) (way_of c.args.self.now c.loop-last.way) c.loop-last.turns.items c.reverse.new.self.items c.loop-last.invariant c.in_default.ensures.turn c.reverse.ensures.items
