use Rattle.std.proofs.Common.{◌≡◌, ◌+◌, ◌∷◌, ◌∙◌, ap, drop, sym}
use Rattle.std.proofs.lemmas.List.{drop_all, drop_more}
use Rattle.acpi_counts.proofs.Listed.{count_in_list, count_in_tree, counts_of}
use Rattle.acpi_counts.proofs.Counts.get.Goals as goal

pub returns-then-eq-clause-found : goal.returns-then-eq-clause-found
returns-then-eq-clause-found c =
    let all = c.deref-listed-items.result.now in
    let i = c.loop-listed.listed-index in
    let e = c.loop-listed-item.result in
    let next : drop i all ≡ e ∷ drop (i + 1) all = drop_more all i e c.loop-listed-test.true ∙ ap (λ x. x ∷ drop (i + 1) all) (sym c.loop-listed-item.is) in
    count_in_list (drop i all) (drop (i + 1) all) all c.self.inside.others c.args.self.now e c.args.path.now c.eq.result
    (ap (λ l. counts_of l c.self.inside.others) c.deref-listed-items.ensures.value ∙ c.self.view_is) c.loop-listed.invariant next c.eq.ensures c.if-eq.true

pub returns-clause-found : goal.returns-clause-found
returns-clause-found c =
    let all = c.deref-listed-items.result.now in
    let i = c.loop-listed.listed-index in
    count_in_tree (drop i all) all c.self.inside.others c.args.self.now c.args.path.now c.copied.result
    (ap (λ l. counts_of l c.self.inside.others) c.deref-listed-items.ensures.value ∙ c.self.view_is) c.loop-listed.invariant (drop_all i all c.loop-listed-test.false) (c.copied.ensures ∙ c.get.ensures)
