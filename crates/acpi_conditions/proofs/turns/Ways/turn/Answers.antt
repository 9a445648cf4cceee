use Rattle.std.proofs.Common.{◌≡◌, length, ap, ◌∙◌, arith}
use Rattle.acpi_conditions.specs.declared.turns.LastTurn.{LastTurn}
use Rattle.acpi_conditions.proofs.WayTrees.{IsKeptWay, kept_way, empty_kept, one_more_way, one_more_behind, ways_count}
use Rattle.acpi_conditions.proofs.turns.Ways.turn.Goals as goal
use Rattle.acpi_conditions.proofs.turns.Ways.turn.Goals.{then-way-count, else-way-count}

count : (c : goal.In_ok-push) → c.len-count.result ≡ length c.self.inside.last_turns.items
count c = c.len-count.ensures ∙ c.self.inside.last_turns.ok.0

kept : (c : goal.In_ok-push) → IsKeptWay c.self.inside.last_turns.items c.if-way-count.before c.args.way
kept c = elim c.if-way-count.branch [
  | then-way-count w ↦ empty_kept c.self.inside.last_turns.items c.if-way-count.before c.args.way (omega (arith, count c, w.if-way-count.true)) (omega (arith, ap (λ b. b.number) w.before-is))
  | else-way-count w ↦ kept_way c.self.inside.last_turns.items c.if-way-count.before c.args.way (omega (arith, count c, w.if-way-count.false)) w.before-is
]

pub invariant_of-self-2 : goal.invariant_of-self-2
invariant_of-self-2 c =
    let l : LastTurn = record { before = c.if-way-count.before; turn = c.args.turn } in
    one_more_behind c.self.inside.last_turns.items c.push.new.self.items l c.in_ok-push.ensures.items c.self.invariant (kept c).0

pub returns-clause-number : goal.returns-clause-number
returns-clause-number c = omega (arith, count c, ways_count c.self.inside.last_turns.items, ap length c.self.view_is)

pub returns-clause-ok : goal.returns-clause-ok
returns-clause-ok c =
    let l : LastTurn = record { before = c.if-way-count.before; turn = c.args.turn } in
    one_more_way c.self.inside.last_turns.items c.push.new.self.items l c.args.self.now c.args.way c.in_ok-push.ensures.items (kept c) c.self.view_is
