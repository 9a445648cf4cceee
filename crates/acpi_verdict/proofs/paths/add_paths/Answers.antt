use Rattle.std.proofs.Common.{◌≡◌, ◌∙◌, None, length, ap, sym, rules}
use Rattle.std.proofs.lemmas.List.{nil_from_length}
use Rattle.std.specs.Vec.Iter.{into_iter_items}
use Rattle.acpi_body.specs.steps.Gathering.{with_misses}
use Rattle.acpi_verdict.proofs.PathSets.{list_grows}
use Rattle.acpi_verdict.proofs.paths.add_paths.Goals as goal

pub returns : goal.returns
returns c =
    let none : length (into_iter_items c.loop-path.path-iterator) ≡ 0 = sym c.loop-path.path-iterator.rest.ok.0 ∙ c.in-None.ensures.steps.0 in
    let all : into_iter_items c.into_iter-path-iterator.result ≡ c.args.more.items = search rules in
    let added : c.loop-path.paths ≡ with_misses None c.args.paths.now c.args.more.items =
    ap (with_misses None c.loop-path.paths) (sym (nil_from_length _ none)) ∙ c.loop-path.invariant ∙ ap (with_misses None c.args.paths.now) all in
    list_grows c.args.paths.now c.loop-path.paths c.args.more.items added
