use Rattle.std.proofs.Common.{◌≡◌, ◌+◌, ◌∷◌, ◌∙◌, ap, drop, sym}
use Rattle.std.proofs.lemmas.List.{drop_all, drop_more}
use Rattle.acpi_name.specs.NameRefs.{name_parts}
use Rattle.acpi_space.specs.Search.{answer}
use Rattle.acpi_space.specs.Spaces.{PathMap, is_defined}
use Rattle.acpi_counts.specs.steps.Longer.{longer_path}
use Rattle.acpi_counts.proofs.Listed.{answer_all, answer_end, answer_next, answer_with, counts_of}
use Rattle.acpi_counts.proofs.Counts.find.Goals as goal

pub loop-path-init : goal.loop-path-init
loop-path-init c =
    let s = c.args.scope.now in
    let n = name_parts c.args.name in
    let all = c.deref-path-items.result.now in
    let others = c.self.inside.others in
    ap (answer_with s n all) c.in_ok-found.ensures ∙ answer_all s n all others
    ∙ ap (λ (m : PathMap _). answer (is_defined m) s n) (ap (λ l. counts_of l others) c.deref-path-items.ensures.value ∙ c.self.view_is)

pub loop-path-preserved : goal.loop-path-preserved
loop-path-preserved c =
    let s = c.args.scope.now in
    let n = name_parts c.args.name in
    let all = c.deref-path-items.result.now in
    let i = c.loop-path.path-index in
    let e = c.loop-path-item.result in
    let next : drop i all ≡ e ∷ drop (i + 1) all = drop_more all i e c.loop-path-test.true ∙ ap (λ x. x ∷ drop (i + 1) all) (sym c.loop-path-item.is) in
    let longer : c.longer-found.result ≡ longer_path c.in_ok-find_only.field-0 c.loop-path.found = c.longer-found.ensures in
    answer_next s n (drop i all) (drop (i + 1) all) e _ c.loop-path.found c.longer-found.result next c.in_ok-find_only.ensures longer ∙ c.loop-path.invariant

pub returns : goal.returns
returns c =
    let s = c.args.scope.now in
    let n = name_parts c.args.name in
    let all = c.deref-path-items.result.now in
    let i = c.loop-path.path-index in
    answer_end s n (drop i all) c.loop-path.found (drop_all i all c.loop-path-test.false) ∙ c.loop-path.invariant
