use Rattle.std.proofs.Common.{sym, ◌∙◌}
use Rattle.acpi_conditions.specs.Turns.{way_of}
use Rattle.acpi_conditions.proofs.WayTests.{part_more, no_part}
use Rattle.acpi_conditions.proofs.turns.Ways.is_part_of.Goals as goal

pub returns-then-not-has_turn : goal.returns-then-not-has_turn
returns-then-not-has_turn c =
    sym (c.loop-last.invariant ∙ no_part (way_of c.args.self.now c.loop-last.way) (way_of c.args.self.now c.in-Some.last.before) c.args.turns.now c.in-Some.last.turn c.in-Some.ensures.turn (sym c.if-not-has_turn.ensures))

pub loop-last-preserved : goal.loop-last-preserved
loop-last-preserved c =
    c.loop-last.invariant ∙ part_more (way_of c.args.self.now c.loop-last.way) (way_of c.args.self.now c.in-Some.last.before) c.args.turns.now c.in-Some.last.turn c.in-Some.ensures.turn (sym c.if-not-has_turn.ensures)
