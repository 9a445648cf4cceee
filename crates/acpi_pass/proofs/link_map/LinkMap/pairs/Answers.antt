use Rattle.std.proofs.Common.{◌≡◌, ◌∙◌, ◌∷◌, ◌++◌, append-nil, length, ap, sym, rules}
use Rattle.std.proofs.lemmas.List.{nil_from_length}
use Rattle.std.specs.Vec.Iter.{into_iter_items}
use Rattle.acpi_pass.proofs.LinkPairs.{lent, lent_shared, pair_moves, seen, seen_of_lent}
use Rattle.acpi_pass.proofs.link_map.LinkMap.pairs.Goals as goal

pub loop-path-init : goal.loop-path-init
loop-path-init c = ap (λ es. lent es ++ lent_shared (into_iter_items c.into_iter-path-iterator.result)) c.new-pairs.ensures.items

pub loop-path-preserved : goal.loop-path-preserved
loop-path-preserved c =
    let front : into_iter_items c.loop-path.path-iterator ≡ (c.in-Some.path, c.in-Some.answers) ∷ into_iter_items c.next.new.self = search rules in
    let same : c.as_slice.result.now ≡ c.in-Some.answers.now.value.items = search rules in
    pair_moves c.loop-path.pairs.items c.push.new.self.items c.in-Some.path c.as_slice.result c.in-Some.answers (into_iter_items c.loop-path.path-iterator) (into_iter_items c.next.new.self)
    c.in_ok-push.ensures.items same front
    ∙ c.loop-path.invariant

pub returns : goal.returns
returns c =
    let none : length (into_iter_items c.loop-path.path-iterator) ≡ 0 = sym c.loop-path.path-iterator.rest.ok.0 ∙ c.in-None.ensures.steps.0 in
    let given : into_iter_items c.into_iter-path-iterator.result ≡ c.in_ok-items.items.items = search rules in
    sym (append-nil (lent c.loop-path.pairs.items))
    ∙ ap (λ es. lent c.loop-path.pairs.items ++ lent_shared es) (sym (nil_from_length _ none))
    ∙ c.loop-path.invariant ∙ ap lent_shared given
    ∙ seen_of_lent c.in_ok-items.items.items ∙ ap seen c.in_ok-items.ensures
