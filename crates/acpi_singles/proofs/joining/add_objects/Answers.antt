use Rattle.std.proofs.Common.{◌≡◌, ◌∙◌, ◌∷◌, length, map, ap, sym, rules}
use Rattle.std.proofs.lemmas.List.{nil_from_length}
use Rattle.std.specs.FinMap.{entries}
use Rattle.std.specs.Vec.Iter.{into_iter_items}
use Rattle.acpi_tree.specs.Objects.{object_view}
use Rattle.acpi_declare.specs.Namespace.{namespace_of}
use Rattle.acpi_singles.proofs.JoinedValues.{mapped, seen_pairs, pair_joined, pair_clashes, pairs_joined}
use Rattle.acpi_singles.proofs.joining.add_objects.Goals as goal

pub loop-path-preserved : goal.loop-path-preserved
loop-path-preserved g c =
    let old = namespace_of (g.S.Space.contents c.args.objects.now) in
    let now = namespace_of (g.S.Space.contents c.loop-path.objects) in
    let new = namespace_of (g.S.Space.contents c.add_object.new.objects) in
    let front : into_iter_items c.loop-path.path-iterator ≡ (c.in-Some.path, c.in-Some.object) ∷ into_iter_items c.next.new.self = search rules in
    pair_joined old now new (mapped object_view (map (λ e. (e.0, e.1.now)) (into_iter_items c.into_iter-path-iterator.result)))
    (mapped object_view (map (λ e. (e.0, e.1.now)) (into_iter_items c.loop-path.path-iterator))) (mapped object_view (map (λ e. (e.0, e.1.now)) (into_iter_items c.next.new.self)))
    c.in-Some.path (object_view c.in-Some.object.now) c.loop-path.invariant (ap (λ es. mapped object_view (map (λ e. (e.0, e.1.now)) es)) front) c.in_ok-add_object.field-0 c.if-not-branch.false
    c.in_ok-add_object.ensures

pub returns-then-not-branch : goal.returns-then-not-branch
returns-then-not-branch g c =
    let old = namespace_of (g.S.Space.contents c.args.objects.now) in
    let now = namespace_of (g.S.Space.contents c.loop-path.objects) in
    let new = namespace_of (g.S.Space.contents c.add_object.new.objects) in
    let part = g.S.Space.contents c.args.part.now in
    let front : into_iter_items c.loop-path.path-iterator ≡ (c.in-Some.path, c.in-Some.object) ∷ into_iter_items c.next.new.self = search rules in
    let given : into_iter_items c.into_iter-path-iterator.result ≡ c.in_ok-items.items.items = search rules in
    let all : map (λ e. (e.0, e.1.now)) (into_iter_items c.into_iter-path-iterator.result) ≡ entries part = ap (map (λ e. (e.0, e.1.now))) given ∙ c.in_ok-items.ensures in
    pair_clashes old now new (mapped object_view (map (λ e. (e.0, e.1.now)) (into_iter_items c.into_iter-path-iterator.result)))
    (mapped object_view (map (λ e. (e.0, e.1.now)) (into_iter_items c.loop-path.path-iterator))) (mapped object_view (map (λ e. (e.0, e.1.now)) (into_iter_items c.next.new.self)))
    c.in-Some.path (object_view c.in-Some.object.now) c.loop-path.invariant (ap (λ es. mapped object_view (map (λ e. (e.0, e.1.now)) es)) front) (namespace_of part)
    (rw all (seen_pairs object_view part)) c.in_ok-add_object.field-0 c.if-not-branch.true c.in_ok-add_object.ensures

pub returns : goal.returns
returns g c =
    let old = namespace_of (g.S.Space.contents c.args.objects.now) in
    let now = namespace_of (g.S.Space.contents c.loop-path.objects) in
    let part = g.S.Space.contents c.args.part.now in
    let none : length (into_iter_items c.loop-path.path-iterator) ≡ 0 = sym c.loop-path.path-iterator.rest.ok.0 ∙ c.in-None.ensures.steps.0 in
    let given : into_iter_items c.into_iter-path-iterator.result ≡ c.in_ok-items.items.items = search rules in
    let all : map (λ e. (e.0, e.1.now)) (into_iter_items c.into_iter-path-iterator.result) ≡ entries part = ap (map (λ e. (e.0, e.1.now))) given ∙ c.in_ok-items.ensures in
    pairs_joined old now (namespace_of part) (mapped object_view (map (λ e. (e.0, e.1.now)) (into_iter_items c.into_iter-path-iterator.result)))
    (mapped object_view (map (λ e. (e.0, e.1.now)) (into_iter_items c.loop-path.path-iterator))) c.loop-path.invariant
    (ap (λ es. mapped object_view (map (λ e. (e.0, e.1.now)) es)) (nil_from_length _ none)) (rw all (seen_pairs object_view part))
