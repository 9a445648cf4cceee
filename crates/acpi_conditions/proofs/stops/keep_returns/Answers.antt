use Rattle.std.proofs.Common.{◌≡◌, List, [], ◌∷◌, ◌++◌, ◌<◌, length, cond, sym, ap, ◌∙◌, arith, append-nil}
use Rattle.acpi_conditions.specs.declared.stops.StopAt.{StopAt}
use Rattle.acpi_conditions.specs.steps.Stops.{returns_from}
use Rattle.acpi_conditions.proofs.StopLists.{kept_more, kept_all}
use Rattle.acpi_conditions.proofs.stops.keep_returns.Goals as goal
use Rattle.acpi_conditions.proofs.stops.keep_returns.Goals.{then-is_kept+in_ok-push, else-is_kept}

kept_now : (c : goal.Joined-is_kept) → c.if-is_kept.kept.items ≡ c.loop-i.kept.items ++ cond {A = List StopAt} c.is_kept.result (c.index-stop.result.now ∷ []) []
kept_now c = elim c.if-is_kept.branch [
  | then-is_kept+in_ok-push w ↦ ap (λ v. v.items) w.kept-is ∙ w.in_ok-push.ensures.items ∙ ap (λ b. c.loop-i.kept.items ++ cond {A = List StopAt} b (c.index-stop.result.now ∷ []) []) (sym w.if-is_kept.true)
  | else-is_kept w ↦ ap (λ v. v.items) w.kept-is ∙ sym (append-nil c.loop-i.kept.items) ∙ ap (λ b. c.loop-i.kept.items ++ cond {A = List StopAt} b (c.index-stop.result.now ∷ []) []) (sym w.if-is_kept.false)
]

pub loop-i-preserved : goal.loop-i-preserved
loop-i-preserved c =
    let l : c.loop-i.i < length c.args.stops.now.items = omega (arith, c.args.stops.now.ok.0) in
    kept_more c.loop-i.kept.items c.if-is_kept.kept.items c.args.stops.now.items (returns_from c.args.from c.args.stops.now.items) c.args.from c.loop-i.i c.is_kept.result c.index-stop.result.now c.loop-i.invariant l c.index-stop.ensures c.is_kept.ensures (kept_now c)

pub returns : goal.returns
returns c = kept_all c.loop-i.kept.items c.args.stops.now.items (returns_from c.args.from c.args.stops.now.items) c.args.from c.loop-i.i c.loop-i.invariant (omega (arith, c.args.stops.now.ok.0))
