use Rattle.std.proofs.Common.{◌≡◌, ◌∙◌, slice_get, arith}
use Rattle.acpi_conditions.proofs.WayTrees.{got_at, no_last_turn, last_turn_got}
use Rattle.acpi_conditions.proofs.turns.Ways.last_turn.Goals as goal

pub returns-in_err-at-clause-turn : goal.returns-in_err-at-clause-turn
returns-in_err-at-clause-turn c = no_last_turn c.self.inside.last_turns.items c.args.self.now c.args.way c.from_residual.result c.self.view_is c.from_residual.ensures (omega (arith, c.in_err-at.ensures))

found : (c : goal.After-copied) → c.copied.result ≡ slice_get c.self.inside.last_turns.items c.in_ok-at.at
found c = c.copied.ensures ∙ got_at c.deref.result.now c.self.inside.last_turns.items c.in_ok-at.at c.get.result c.get.ensures.lookup c.deref.ensures.value

pub returns-clause-turn : goal.returns-clause-turn
returns-clause-turn c = (last_turn_got c.self.inside.last_turns.items c.args.self.now c.args.way c.in_ok-at.at c.copied.result c.self.view_is c.self.invariant (omega (arith, c.in_ok-at.ensures)) (found c)).0

pub returns-clause-before : goal.returns-clause-before
returns-clause-before c = (last_turn_got c.self.inside.last_turns.items c.args.self.now c.args.way c.in_ok-at.at c.copied.result c.self.view_is c.self.invariant (omega (arith, c.in_ok-at.ensures)) (found c)).1
