use Rattle.std.proofs.Common.{◌≡◌, Bool, not, ◌&&◌, ◌||◌, map, sym, ap, ap₂, ◌∙◌, refl}
use Rattle.std.specs.List.{list_any}
use Rattle.acpi_conditions.specs.Links.{is_opposite, is_round}
use Rattle.acpi_conditions.specs.Turns.{turn_of, way_of}
use Rattle.acpi_conditions.proofs.WayTests.{exclusive_more}
use Rattle.acpi_conditions.proofs.turns.Ways.are_exclusive.Goals as goal
use Rattle.acpi_conditions.proofs.turns.Ways.are_exclusive.Goals.{then-not-is_round+then-has_opposite, then-not-is_round+else-has_opposite, else-not-is_round}

abbrev now : Bool → Bool → Bool → Bool
now round opposite so_far = not round && (opposite || so_far)

is_now : (c : goal.After-way-1) → c.if-not-is_round.exclusive ≡ now (is_round (turn_of c.in-Some.last.turn)) (list_any (λ x. is_opposite (turn_of c.in-Some.last.turn) (turn_of x)) c.outside_loops-outside.result.now) c.loop-last.exclusive
is_now c = elim c.if-not-is_round.branch [
  | then-not-is_round+then-has_opposite w ↦ w.exclusive-is ∙ w.if-has_opposite.true ∙ sym (ap₂ (λ r o. now r o c.loop-last.exclusive) (sym c.is_round.ensures ∙ w.if-not-is_round.true) (sym w.has_opposite.ensures ∙ w.if-has_opposite.true))
  | then-not-is_round+else-has_opposite w ↦ w.exclusive-is ∙ sym (ap₂ (λ r o. now r o c.loop-last.exclusive) (sym c.is_round.ensures ∙ w.if-not-is_round.true) (sym w.has_opposite.ensures ∙ w.if-has_opposite.false))
  | else-not-is_round w ↦ w.exclusive-is ∙ ap not w.if-not-is_round.false ∙ sym (ap (λ r. now r (list_any (λ x. is_opposite (turn_of c.in-Some.last.turn) (turn_of x)) c.outside_loops-outside.result.now) c.loop-last.exclusive) (sym c.is_round.ensures ∙ w.if-not-is_round.false))
]

pub loop-last-preserved : goal.loop-last-preserved
loop-last-preserved c =
    exclusive_more (way_of c.args.self.now c.args.way) (way_of c.args.self.now c.loop-last.way) (way_of c.args.self.now c.in-Some.last.before) (map turn_of c.outside_loops-outside.result.now) c.outside_loops-outside.result.now c.in-Some.last.turn
    c.loop-last.exclusive c.if-not-is_round.exclusive refl c.loop-last.invariant c.in-Some.ensures.turn (is_now c)
