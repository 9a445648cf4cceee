use Rattle.std.proofs.Common.{◌≡◌, List, ◌++◌, drop, sym, ap, append-nil, ◌∙◌}
use Rattle.acpi_conditions.specs.Turns.{way_of}
use Rattle.acpi_conditions.specs.declared.stops.StopAt.{StopAt}
use Rattle.acpi_conditions.specs.steps.Stops.{pasts}
use Rattle.acpi_conditions.specs.Walk.{Walk}
use Rattle.acpi_conditions.specs.steps.Moves.{gone_out}
use Rattle.acpi_conditions.specs.steps.Walks.{walk_of}
use Rattle.acpi_conditions.proofs.KeptWalks.{packages_still}
use Rattle.acpi_conditions.proofs.WalkPackages.{popped_kept, popped_grown, out_kept, out_same}
use Rattle.acpi_conditions.proofs.walk.Walk.go_out.Goals as goal
use Rattle.acpi_conditions.proofs.walk.Walk.go_out.Goals.{in-Some-2, in-None-2}

pub invariant_of-self : goal.invariant_of-self
invariant_of-self c = popped_kept c.self.inside c.self.invariant c.pop.new.self c.in-Some.inner c.in-Some.ensures.items

pub invariant_of-self-in_err-self-inside : goal.invariant_of-self-in_err-self-inside
invariant_of-self-in_err-self-inside c = popped_grown c.self.inside c.self.invariant c.pop.new.self c.in-Some.inner c.in-Some.ensures.items c.way_past.new.ways c.way_past.ensures.grown

pub invariant_of-self-in_ok-self-inside-2 : goal.invariant_of-self-in_ok-self-inside-2
invariant_of-self-in_ok-self-inside-2 c =
    out_kept c.self.inside c.self.invariant c.pop.new.self c.in-Some.inner c.in-Some.ensures.items c.args.keeps c.way_past.new.ways c.way_past.ensures.grown c.in_ok-self-inside.field-0 c.in_ok-self-inside.ensures.known
    c.come_out.new.self c.come_out.ensures c.in_ok-scope.scope c.in_ok-scope.ensures c.if_of.result c.if_of.ensures

pub invariant_of-self-in_default : goal.invariant_of-self-in_default
invariant_of-self-in_default c = packages_still c.self.inside c.self.invariant c.pop.new.self (sym (c.in_default.ensures.items ∙ append-nil c.pop.new.self.items))

pub returns-in_ok-self-inside : goal.returns-in_ok-self-inside
returns-in_ok-self-inside c = elim c.match-self-if_of.branch [
  | in-Some-2 w ↦ w.self-is ∙ is
  | in-None-2 w ↦ w.self-is ∙ is
]
  where
    is : walk_of (record c.self.inside { paths = c.come_out.new.self; ways = c.way_past.new.ways; scope = c.in_ok-scope.scope; way = c.in_ok-self-inside.field-0; packages = c.pop.new.self; last_if = c.if_of.result })
        ≡ gone_out c.args.keeps c.args.self.now.packages c.args.self.now
    is =
        out_same c.self.inside c.self.invariant c.pop.new.self c.in-Some.inner c.in-Some.ensures.items c.args.keeps c.way_past.new.ways c.way_past.ensures.grown c.in_ok-self-inside.field-0 c.in_ok-self-inside.ensures.known
        c.come_out.new.self c.come_out.ensures c.in_ok-scope.scope c.in_ok-scope.ensures c.if_of.result c.if_of.ensures
        (c.in_ok-self-inside.ensures.way ∙ ap (λ (l : List StopAt). way_of c.self.inside.ways c.in-Some.inner.way ++ pasts (drop c.in-Some.inner.stops l)) c.deref.ensures.value)
        ∙ ap (λ (w : Walk). gone_out c.args.keeps w.packages w) c.self.view_is
