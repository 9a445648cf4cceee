use Rattle.std.proofs.Common.{◌≡◌, ◌∷◌, [], ◌+◌, List, drop, get_or, None, sym, subst}
use Rattle.std.proofs.lemmas.List.{drop_more, drop_all}
use Rattle.acpi_verdict.specs.declared.definers.Definer.{Definer}
use Rattle.acpi_verdict.specs.steps.Finding.{AddsSatisfied, IsSatisfiedByAny}
use Rattle.acpi_verdict.proofs.SatisfiedExternals.{any_none, any_more}
use Rattle.acpi_verdict.proofs.satisfied_externals.add_all_satisfied.Goals as goal

pub loop-definer-preserved : goal.loop-definer-preserved
loop-definer-preserved c = λ now h.
    let definers = c.args.definers.now in
    let i = c.loop-definer.definer-index in
    let x : Definer = get_or definers i (record { number = 0; args = None }) in
    let here : drop i definers ≡ x ∷ drop (i + 1) definers = drop_more definers i _ c.loop-definer-test.true in
    c.loop-definer.invariant now
    (subst (λ (xs : List Definer). AddsSatisfied c.loop-definer.found.items now (IsSatisfiedByAny c.args.user c.args.path.now c.args.count xs)) (sym here)
    (any_more c.args.user c.args.path.now c.args.count x (drop (i + 1) definers) c.loop-definer.found.items c.add_if_satisfied.new.found.items now c.in_ok-add_if_satisfied.ensures h))

pub returns : goal.returns
returns c =
    let none : drop c.loop-definer.definer-index c.args.definers.now ≡ [] = drop_all _ _ c.loop-definer-test.false in
    let found = c.loop-definer.found.items in
    c.loop-definer.invariant found
    (subst (λ (xs : List Definer). AddsSatisfied found found (IsSatisfiedByAny c.args.user c.args.path.now c.args.count xs)) (sym none) (any_none c.args.user c.args.path.now c.args.count found))
