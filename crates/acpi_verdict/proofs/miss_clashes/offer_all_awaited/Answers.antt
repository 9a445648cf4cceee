use Rattle.std.proofs.Common.{◌≡◌, ◌∷◌, ℕ, List, map, length, sym, ap, subst, ◌∙◌, rules}
use Rattle.std.proofs.lemmas.List.{nil_from_length}
use Rattle.std.specs.FinMap.{entries}
use Rattle.std.specs.Vec.Iter.{into_iter_items}
use Rattle.acpi_name.specs.Names.{Segment}
use Rattle.acpi_verdict.specs.steps.Clashing.{Offers}
use Rattle.acpi_verdict.specs.steps.Finding.{IsAwaitedOf}
use Rattle.acpi_verdict.proofs.UnmetPaths.{awaited_none, awaited_more}
use Rattle.acpi_verdict.proofs.miss_clashes.offer_all_awaited.Goals as goal

pub loop-path-preserved : goal.loop-path-preserved
loop-path-preserved c = λ now h.
    let d = c.args.definers.now in
    let later = into_iter_items c.next.new.self in
    let front : into_iter_items c.loop-path.path-iterator ≡ (c.in-Some.path, c.in-Some.count) ∷ later = search rules in
    c.loop-path.invariant now
    (subst (λ (l : List _). Offers c.loop-path.clash now (IsAwaitedOf d c.args.searcher (map (λ e. (e.0, e.1.now)) l))) (sym front)
    (awaited_more d c.args.searcher (c.in-Some.path, c.in-Some.count.now) (map (λ e. (e.0, e.1.now)) later) c.loop-path.clash c.offer_awaited.new.clash now c.in_ok-offer_awaited.ensures h))

pub returns : goal.returns
returns c =
    let d = c.args.definers.now in
    let clash = c.loop-path.clash in
    let none : length (into_iter_items c.loop-path.path-iterator) ≡ 0 = sym c.loop-path.path-iterator.rest.ok.0 ∙ c.in-None.ensures.steps.0 in
    let all : into_iter_items c.into_iter-path-iterator.result ≡ c.in_ok-items.items.items = search rules in
    let listed : map (λ e. (e.0, e.1.now)) (into_iter_items c.into_iter-path-iterator.result) ≡ entries c.args.awaited.now = ap (map (λ e. (e.0, e.1.now))) all ∙ c.in_ok-items.ensures in
    subst (λ (es : List (List Segment × ℕ)). Offers c.args.clash.now clash (IsAwaitedOf d c.args.searcher es)) listed
    (c.loop-path.invariant clash
    (subst (λ (l : List _). Offers clash clash (IsAwaitedOf d c.args.searcher (map (λ e. (e.0, e.1.now)) l))) (sym (nil_from_length _ none)) (awaited_none d c.args.searcher clash)))
