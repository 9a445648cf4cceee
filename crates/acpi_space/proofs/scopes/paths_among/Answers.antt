use Rattle.std.proofs.Common.{◌≡◌, ◌++◌, [], ◌∷◌, ◌≤◌, ◌∙◌, Some, ap, length, length-append, arith}
use Rattle.acpi_name.specs.Names.{Segment}
use Rattle.acpi_space.specs.Spaces.{is_defined}
use Rattle.acpi_space.specs.steps.Within.{IsInnermost}
use Rattle.acpi_space.proofs.AmongPaths.{Here, none_are, first_is, nothing_taken, taken_last, put_last, put_end, put_on}
use Rattle.acpi_space.proofs.scopes.paths_among.Goals as goal

pub returns-in_default : goal.returns-in_default
returns-in_default g c = c.new-paths.ensures.items ∙ none_are
    (is_defined (g.T.Space.contents c.args.among.now)) c.args.seg c.args.outer c.args.scope.now c.in_ok-inner.field-0 c.in_ok-inner.ensures c.in_default.is

pub returns-then-is_none : goal.returns-then-is_none
returns-then-is_none g c =
    put_last (is_defined (g.T.Space.contents c.args.among.now)) c.args.seg c.args.outer c.args.scope.now c.loop-inner.inner c.push.new.self c.loop-inner.paths.items c.push-in-loop-inner.new.self.items
    c.loop-inner.invariant.left c.loop-inner.invariant.here c.loop-inner.invariant.inside
    (c.in_ok-push.ensures.ok ∙ ap (λ q. q ++ c.args.seg ∷ []) c.in_ok-path.ensures) c.in_ok-push-2.ensures.items
    (nothing_taken c.pop.result c.is_none.result c.loop-inner.inner c.is_none.ensures c.if-is_none.true c.pop.ensures.last)

pub loop-inner-smaller : goal.loop-inner-smaller
loop-inner-smaller g c =
    let t : (y : Segment) × (c.loop-inner.inner ≡ c.pop.new.self ++ y ∷ []) =
    taken_last c.pop.result c.is_none.result c.loop-inner.inner c.pop.new.self c.is_none.ensures c.if-is_none.false c.pop.ensures.last c.pop.ensures.parent in
    let i : IsInnermost (Here (is_defined (g.T.Space.contents c.args.among.now)) c.args.seg c.args.outer) c.args.outer c.pop.new.self (Some c.in-Some-2.next) =
    first_is (is_defined (g.T.Space.contents c.args.among.now)) c.args.seg c.args.outer c.pop.new.self c.in_ok-next.field-0 c.in-Some-2.next c.in_ok-next.ensures c.in-Some-2.is in
    let l : length c.in-Some-2.next ≤ length c.pop.new.self = i.2 in
    omega (arith, ap length t.1, length-append c.pop.new.self (t.0 ∷ []))

pub loop-inner-preserved : goal.loop-inner-preserved
loop-inner-preserved g c =
    let t : (y : Segment) × (c.loop-inner.inner ≡ c.pop.new.self ++ y ∷ []) =
    taken_last c.pop.result c.is_none.result c.loop-inner.inner c.pop.new.self c.is_none.ensures c.if-is_none.false c.pop.ensures.last c.pop.ensures.parent in
    let i : IsInnermost (Here (is_defined (g.T.Space.contents c.args.among.now)) c.args.seg c.args.outer) c.args.outer c.pop.new.self (Some c.in-Some-2.next) =
    first_is (is_defined (g.T.Space.contents c.args.among.now)) c.args.seg c.args.outer c.pop.new.self c.in_ok-next.field-0 c.in-Some-2.next c.in_ok-next.ensures c.in-Some-2.is in
    record {
      left = put_on (is_defined (g.T.Space.contents c.args.among.now)) c.args.seg c.args.outer c.args.scope.now c.loop-inner.inner c.push.new.self c.loop-inner.paths.items
          c.push-in-loop-inner.new.self.items
          c.loop-inner.invariant.left c.loop-inner.invariant.here c.loop-inner.invariant.inside
          (c.in_ok-push.ensures.ok ∙ ap (λ q. q ++ c.args.seg ∷ []) c.in_ok-path.ensures) c.in_ok-push-2.ensures.items
          c.pop.new.self t.0 t.1 c.in-Some-2.next i;
      here = i.0;
      inside = i.1;
    }

pub returns-in-None : goal.returns-in-None
returns-in-None g c =
    let t : (y : Segment) × (c.loop-inner.inner ≡ c.pop.new.self ++ y ∷ []) =
    taken_last c.pop.result c.is_none.result c.loop-inner.inner c.pop.new.self c.is_none.ensures c.if-is_none.false c.pop.ensures.last c.pop.ensures.parent in
    put_end (is_defined (g.T.Space.contents c.args.among.now)) c.args.seg c.args.outer c.args.scope.now c.loop-inner.inner c.push.new.self c.loop-inner.paths.items c.push-in-loop-inner.new.self.items
    c.loop-inner.invariant.left c.loop-inner.invariant.here c.loop-inner.invariant.inside
    (c.in_ok-push.ensures.ok ∙ ap (λ q. q ++ c.args.seg ∷ []) c.in_ok-path.ensures) c.in_ok-push-2.ensures.items
    c.pop.new.self t.0 t.1 c.in_ok-next.field-0 c.in_ok-next.ensures c.in-None.is
