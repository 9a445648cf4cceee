use Rattle.std.proofs.Common.{◌≡◌, ◌∙◌, ◌∷◌, length, false, true, ap, sym, rules}
use Rattle.std.proofs.lemmas.List.{nil_from_length}
use Rattle.std.specs.Vec.Iter.{into_iter_items}
use Rattle.acpi_space.specs.Overlays.{both}
use Rattle.acpi_space.specs.steps.Layers.{pairs_of}
use Rattle.acpi_space.proofs.Laid.{pair_added, pair_passed, pairs_added}
use Rattle.acpi_space.proofs.overlay.add_pairs.Goals as goal

pub loop-path-preserved-in_ok-insert : goal.loop-path-preserved-in_ok-insert
loop-path-preserved-in_ok-insert g c =
    let next : into_iter_items c.loop-path.path-iterator ≡ (c.in-Some.path, c.in-Some.value) ∷ into_iter_items c.next.new.self = search rules in
    let absent : c.contains_key.result ≡ false = search rules in
    pair_added c.loop-path.pairs.entries c.insert.new.self.entries c.in-Some.path c.in-Some.value _
    (into_iter_items c.next.new.self) _ _ c.loop-path.invariant next c.contains_key.ensures absent c.in_ok-insert.ensures.updates.0

pub loop-path-preserved : goal.loop-path-preserved
loop-path-preserved g c =
    let next : into_iter_items c.loop-path.path-iterator ≡ (c.in-Some.path, c.in-Some.value) ∷ into_iter_items c.next.new.self = search rules in
    let present : c.contains_key.result ≡ true = search rules in
    pair_passed c.loop-path.pairs.entries c.in-Some.path c.in-Some.value _ (into_iter_items c.next.new.self) _ _ c.loop-path.invariant next c.contains_key.ensures present

pub returns : goal.returns
returns g c =
    let none : length (into_iter_items c.loop-path.path-iterator) ≡ 0 = sym c.loop-path.path-iterator.rest.ok.0 ∙ c.in-None.ensures.steps.0 in
    let all : into_iter_items c.into_iter-path-iterator.result ≡ c.args.more.items = search rules in
    pairs_added c.loop-path.pairs.entries (into_iter_items c.loop-path.path-iterator) _ c.loop-path.invariant (nil_from_length _ none)
    ∙ ap (λ l. both (pairs_of c.args.pairs.now.entries) (pairs_of l)) all
