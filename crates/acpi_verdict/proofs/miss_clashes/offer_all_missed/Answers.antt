use Rattle.std.proofs.Common.{◌≡◌, ◌∷◌, List, map, length, sym, ap, subst, ◌∙◌, rules}
use Rattle.std.proofs.lemmas.List.{nil_from_length}
use Rattle.std.specs.FinMap.{keys}
use Rattle.std.specs.Vec.Iter.{into_iter_items}
use Rattle.acpi_name.specs.Names.{Segment}
use Rattle.acpi_verdict.specs.steps.Clashing.{Offers}
use Rattle.acpi_verdict.specs.steps.Finding.{IsMissedOf}
use Rattle.acpi_verdict.proofs.PathSets.{paths_in}
use Rattle.acpi_verdict.proofs.UnmetPaths.{missed_none, missed_more}
use Rattle.acpi_verdict.proofs.miss_clashes.offer_all_missed.Goals as goal

pub loop-path-preserved : goal.loop-path-preserved
loop-path-preserved c = λ now h.
    let d = c.args.definers.now in
    let later = map (λ e. (e.0, e.1.now)) (into_iter_items c.next.new.self) in
    let front : map (λ e. (e.0, e.1.now)) (into_iter_items c.loop-path.path-iterator) ≡ (c.in-Some.path, tt) ∷ later = search rules in
    c.loop-path.invariant now
    (subst (λ (l : List (List Segment × _)). Offers c.loop-path.clash now (IsMissedOf d c.args.searcher (paths_in l))) (sym front)
    (missed_more d c.args.searcher c.in-Some.path (paths_in later) c.loop-path.clash c.offer_missed.new.clash now c.in_ok-offer_missed.ensures h))

pub returns : goal.returns
returns c =
    let d = c.args.definers.now in
    let clash = c.loop-path.clash in
    let none : length (into_iter_items c.loop-path.path-iterator) ≡ 0 = sym c.loop-path.path-iterator.rest.ok.0 ∙ c.in-None.ensures.steps.0 in
    let all : into_iter_items c.into_iter-path-iterator.result ≡ c.in_ok-items.items.items = search rules in
    let listed : paths_in (map (λ e. (e.0, e.1.now)) (into_iter_items c.into_iter-path-iterator.result)) ≡ keys c.args.missed.now =
    ap paths_in (ap (map (λ e. (e.0, e.1.now))) all ∙ c.in_ok-items.ensures) in
    subst (λ (ps : List (List Segment)). Offers c.args.clash.now clash (IsMissedOf d c.args.searcher ps)) listed
    (c.loop-path.invariant clash
    (subst (λ (l : List _). Offers clash clash (IsMissedOf d c.args.searcher (paths_in (map (λ e. (e.0, e.1.now)) l)))) (sym (nil_from_length _ none)) (missed_none d c.args.searcher clash)))
