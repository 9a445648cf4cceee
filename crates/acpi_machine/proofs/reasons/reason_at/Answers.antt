use Rattle.std.proofs.Common.{◌≡◌, ◌∷◌, [], ◌+◌, List, None, drop, map, inr, refl, sym, ap, subst, ◌∙◌, arith}
use Rattle.std.proofs.lemmas.List.{drop_more, drop_all}
use Rattle.std.specs.FinMap.{get}
use Rattle.std.specs.Option.{option_copied}
use Rattle.acpi_declare.specs.Namespace.{Namespace, namespace_of}
use Rattle.acpi_declare.specs.Notes.{notes_of}
use Rattle.acpi_pass.specs.declared.notes.TableNotes.{TableNotes}
use Rattle.acpi_body.specs.Arguments.{body_grammar}
use Rattle.acpi_machine.specs.Explaining.{IsReasonAt}
use Rattle.acpi_order.specs.steps.Noted.{all_noted}
use Rattle.acpi_order.proofs.Lists.{ok_by}
use Rattle.acpi_machine.proofs.Explained.{reason_of, told_here, told_later}
use Rattle.acpi_machine.proofs.reasons.reason_at.Goals as goal

pub returns-in-Some : goal.returns-in-Some
returns-in-Some g c =
    let i = c.loop-table.table-index in
    let notes = c.args.notes.now in
    let t = c.table-item.result in
    let m = c.in-Some.method.now in
    let bytes = c.deref-in-Some.result.now in
    let objects : Namespace = namespace_of (g.S.Space.contents c.args.objects.now) in
    let here : drop i notes ≡ t ∷ drop (i + 1) notes = drop_more notes i t (grind arith) ∙ ap (λ y. y ∷ drop (i + 1) notes) (sym c.table-item.is) in
    let told = reason_of (body_grammar objects (get t.counts) m.path) m.path c.args.depth bytes c.why.result c.why.ensures.read c.why.ensures.faults c.why.ensures.next in
    ok_by c.why.result
    (λ w. IsReasonAt c.args.depth objects (all_noted (map notes_of (t ∷ drop (i + 1) notes))) c.args.path.now w)
    (λ w. IsReasonAt c.args.depth objects (all_noted (map notes_of notes)) c.args.path.now w)
    (λ w h. c.loop-table.invariant w (subst (λ (l : List TableNotes). IsReasonAt c.args.depth objects (all_noted (map notes_of l)) c.args.path.now w) (sym here) h))
    (told_here c.args.depth objects t (drop (i + 1) notes) c.args.path.now c.deref.result.now m bytes c.why.result
    c.deref.ensures.value (sym c.method_at.ensures ∙ ap option_copied c.in-Some.is) c.deref-in-Some.ensures told)

pub loop-table-preserved : goal.loop-table-preserved
loop-table-preserved g c = λ w h.
    let i = c.loop-table.table-index in
    let notes = c.args.notes.now in
    let t = c.table-item.result in
    let objects : Namespace = namespace_of (g.S.Space.contents c.args.objects.now) in
    let here : drop i notes ≡ t ∷ drop (i + 1) notes = drop_more notes i t (grind arith) ∙ ap (λ y. y ∷ drop (i + 1) notes) (sym c.table-item.is) in
    c.loop-table.invariant w
    (subst (λ (l : List TableNotes). IsReasonAt c.args.depth objects (all_noted (map notes_of l)) c.args.path.now w) (sym here)
    (told_later c.args.depth objects t (drop (i + 1) notes) c.args.path.now c.deref.result.now w c.deref.ensures.value (sym c.method_at.ensures ∙ ap option_copied c.in_default.is) h))

pub returns : goal.returns
returns g c =
    let objects : Namespace = namespace_of (g.S.Space.contents c.args.objects.now) in
    let none : drop c.loop-table.table-index c.args.notes.now ≡ [] = drop_all _ _ c.loop-table-test.false in
    c.loop-table.invariant None
    (subst (λ (l : List TableNotes). IsReasonAt c.args.depth objects (all_noted (map notes_of l)) c.args.path.now None) (sym none) (inr (λ m i. absurd i, refl)))
