use Rattle.std.proofs.Common.{◌≡◌, ◌∷◌, [], ◌+◌, List, drop, get_or, None, sym, subst}
use Rattle.std.proofs.lemmas.List.{drop_more, drop_all}
use Rattle.acpi_space.specs.Laws.{Among}
use Rattle.acpi_verdict.specs.declared.definers.Definer.{Definer}
use Rattle.acpi_verdict.specs.steps.AffectedSsdts.{Marks}
use Rattle.acpi_verdict.proofs.Marked.{marks_none, more_marked}
use Rattle.acpi_verdict.proofs.affected_ssdts.mark_all.Goals as goal

pub loop-definer-preserved : goal.loop-definer-preserved
loop-definer-preserved c = λ now h.
    let definers = c.args.definers.now in
    let i = c.loop-definer.definer-index in
    let x : Definer = get_or definers i (record { number = 0; args = None }) in
    let here : drop i definers ≡ x ∷ drop (i + 1) definers = drop_more definers i _ c.loop-definer-test.true in
    c.loop-definer.invariant now
    (subst (λ (xs : List Definer). Marks c.loop-definer.affected.items now (Among xs)) (sym here)
    (more_marked x (drop (i + 1) definers) c.loop-definer.affected.items c.mark.new.affected.items now c.mark.ensures h))

pub returns : goal.returns
returns c =
    let none : drop c.loop-definer.definer-index c.args.definers.now ≡ [] = drop_all _ _ c.loop-definer-test.false in
    let now = c.loop-definer.affected.items in
    c.loop-definer.invariant now (subst (λ (xs : List Definer). Marks now now (Among xs)) (sym none) (marks_none now (Among []) (λ x m. m)))
