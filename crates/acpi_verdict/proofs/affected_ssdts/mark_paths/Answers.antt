use Rattle.std.proofs.Common.{◌≡◌, ◌∷◌, List, map, length, sym, ap, subst, ◌∙◌, rules}
use Rattle.std.proofs.lemmas.List.{nil_from_length}
use Rattle.std.specs.FinMap.{entries}
use Rattle.std.specs.Vec.Iter.{into_iter_items}
use Rattle.acpi_verdict.specs.steps.AffectedSsdts.{Marks, IsNotedAtAny}
use Rattle.acpi_verdict.proofs.Marked.{no_paths_marked, more_paths_marked}
use Rattle.acpi_verdict.proofs.affected_ssdts.mark_paths.Goals as goal

pub loop-path-preserved : goal.loop-path-preserved
loop-path-preserved g c = λ now h.
    let d = c.args.definers.now in
    let later = into_iter_items c.next.new.self in
    let value = c.in-Some.field-0-1 in
    let front : into_iter_items c.loop-path.path-iterator ≡ (c.in-Some.path, value) ∷ later = search rules in
    c.loop-path.invariant now
    (subst (λ (l : List _). Marks c.loop-path.affected.items now (IsNotedAtAny d (map (λ e. (e.0, e.1.now)) l))) (sym front)
    (more_paths_marked d c.in-Some.path value.now (map (λ e. (e.0, e.1.now)) later) c.loop-path.affected.items c.mark_first.new.affected.items c.mark_others.new.affected.items now
    c.mark_first.ensures c.mark_others.ensures h))

pub returns : goal.returns
returns g c =
    let d = c.args.definers.now in
    let now = c.loop-path.affected.items in
    let none : length (into_iter_items c.loop-path.path-iterator) ≡ 0 = sym c.loop-path.path-iterator.rest.ok.0 ∙ c.in-None.ensures.steps.0 in
    let all : into_iter_items c.into_iter-path-iterator.result ≡ c.in_ok-items.items.items = search rules in
    let listed : map (λ e. (e.0, e.1.now)) (into_iter_items c.into_iter-path-iterator.result) ≡ entries c.args.paths.now = ap (map (λ e. (e.0, e.1.now))) all ∙ c.in_ok-items.ensures in
    subst (λ (es : List _). Marks c.args.affected.now.items now (IsNotedAtAny d es)) listed
    (c.loop-path.invariant now
    (subst (λ (l : List _). Marks now now (IsNotedAtAny d (map (λ e. (e.0, e.1.now)) l))) (sym (nil_from_length _ none)) (no_paths_marked d now)))
