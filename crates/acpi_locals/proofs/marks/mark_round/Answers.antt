use Rattle.std.proofs.Common.{sym, ◌∙◌}
use Rattle.acpi_locals.proofs.Rounds.{round_begins, round_marks, round_passes, round_is}
use Rattle.acpi_locals.proofs.marks.mark_round.Goals as goal
use Rattle.acpi_locals.proofs.marks.mark_round.Goals.{then-branch, else-branch}

pub each-init : goal.each-init
each-init g c = round_begins (g.L.Leads.next c.args.leads.now) c.args.marks.now

pub each-preserved : goal.each-preserved
each-preserved g c = elim c.if-branch.branch [
  | then-branch w ↦ round_is _ _ _ _ _ _ _ w.marks-is w.changed-is (round_marks _ _ _ _ _ c.each.invariant c.each-test.true (sym c.in_ok-is_next.ensures ∙ w.if-branch.true))
  | else-branch w ↦ round_is _ _ _ _ _ _ _ w.marks-is w.changed-is (round_passes _ _ _ _ _ c.each.invariant (sym c.in_ok-is_next.ensures ∙ w.if-branch.false))
]
