use Rattle.std.proofs.Common.{◌≡◌, ◌∙◌, ◌∷◌, length, map, ap, sym, rules}
use Rattle.std.proofs.lemmas.List.{nil_from_length}
use Rattle.std.specs.Vec.Iter.{into_iter_items}
use Rattle.acpi_declare.specs.Links.{links_at, link_pairs}
use Rattle.acpi_singles.proofs.JoinedValues.{seen_pairs, pair_joined, pair_clashes, pairs_joined}
use Rattle.acpi_singles.proofs.joining.add_links.Goals as goal

pub loop-path-preserved : goal.loop-path-preserved
loop-path-preserved c =
    let front : into_iter_items c.loop-path.path-iterator ≡ (c.in-Some.path, c.in-Some.answers) ∷ into_iter_items c.next.new.self = search rules in
    pair_joined (links_at c.args.links.now) (links_at c.loop-path.links) (links_at c.add_link.new.links) (map (λ e. (e.0, e.1.now)) (into_iter_items c.into_iter-path-iterator.result))
    (map (λ e. (e.0, e.1.now)) (into_iter_items c.loop-path.path-iterator)) (map (λ e. (e.0, e.1.now)) (into_iter_items c.next.new.self))
    c.in-Some.path c.in-Some.answers.now c.loop-path.invariant (ap (map (λ e. (e.0, e.1.now))) front) c.in_ok-add_link.field-0 c.if-not-branch.false c.in_ok-add_link.ensures

pub returns-then-not-branch : goal.returns-then-not-branch
returns-then-not-branch c =
    let part = c.args.part.now in
    let front : into_iter_items c.loop-path.path-iterator ≡ (c.in-Some.path, c.in-Some.answers) ∷ into_iter_items c.next.new.self = search rules in
    let given : into_iter_items c.into_iter-path-iterator.result ≡ c.in_ok-items.items.items = search rules in
    let all : map (λ e. (e.0, e.1.now)) (into_iter_items c.into_iter-path-iterator.result) ≡ link_pairs part = ap (map (λ e. (e.0, e.1.now))) given ∙ c.in_ok-items.ensures in
    pair_clashes (links_at c.args.links.now) (links_at c.loop-path.links) (links_at c.add_link.new.links) (map (λ e. (e.0, e.1.now)) (into_iter_items c.into_iter-path-iterator.result))
    (map (λ e. (e.0, e.1.now)) (into_iter_items c.loop-path.path-iterator)) (map (λ e. (e.0, e.1.now)) (into_iter_items c.next.new.self))
    c.in-Some.path c.in-Some.answers.now c.loop-path.invariant (ap (map (λ e. (e.0, e.1.now))) front) (links_at part)
    (rw all (seen_pairs (λ a. a.value.items) part.answers)) c.in_ok-add_link.field-0 c.if-not-branch.true c.in_ok-add_link.ensures

pub returns : goal.returns
returns c =
    let part = c.args.part.now in
    let none : length (into_iter_items c.loop-path.path-iterator) ≡ 0 = sym c.loop-path.path-iterator.rest.ok.0 ∙ c.in-None.ensures.steps.0 in
    let given : into_iter_items c.into_iter-path-iterator.result ≡ c.in_ok-items.items.items = search rules in
    let all : map (λ e. (e.0, e.1.now)) (into_iter_items c.into_iter-path-iterator.result) ≡ link_pairs part = ap (map (λ e. (e.0, e.1.now))) given ∙ c.in_ok-items.ensures in
    pairs_joined (links_at c.args.links.now) (links_at c.loop-path.links) (links_at part) (map (λ e. (e.0, e.1.now)) (into_iter_items c.into_iter-path-iterator.result))
    (map (λ e. (e.0, e.1.now)) (into_iter_items c.loop-path.path-iterator)) c.loop-path.invariant
    (ap (map (λ e. (e.0, e.1.now))) (nil_from_length _ none)) (rw all (seen_pairs (λ a. a.value.items) part.answers))
