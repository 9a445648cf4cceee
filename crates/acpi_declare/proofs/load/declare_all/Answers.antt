use Rattle.std.proofs.Common.{◌≡◌, ◌∙◌, ◌++◌, ◌∷◌, ◌+◌, ◌<◌, [], take, drop, length, ap, sym, subst, refl, arith}
use Rattle.std.proofs.lemmas.Result.{err_from_is_err_and}
use Rattle.std.proofs.lemmas.List.{drop_more, take_more, take-append-drop, length-take-le}
use Rattle.acpi_declare.specs.Declaring.{state_of}
use Rattle.acpi_declare.specs.steps.Adding.{HasKept, with_notes}
use Rattle.acpi_declare.proofs.TableLists.{no_tables, no_notes_yet, no_tables_kept, one_more_kept, next_fault}
use Rattle.acpi_declare.proofs.load.declare_all.Goals as goal

pub returns-in_err-loaded-clause-err : goal.returns-in_err-loaded-clause-err
returns-in_err-loaded-clause-err g c =
    let p = err_from_is_err_and c.from_residual-in_err-loaded.result c.from_residual-in_err-loaded.ensures.1 in
    let s = c.in_ok-start.field-0 in
    let begun = no_tables c.args.depth 0 (state_of g.S.Space.contents s) c.in_ok-start.ensures.ok in
    rw (p.1, p.2) (next_fault c.args.depth 0 [] c.args.ssdts.now (c.args.dsdt.now ∷ c.args.ssdts.now) c.args.dsdt.now
    (state_of g.S.Space.contents s) c.in_err-loaded.field-0.0 refl refl begun c.in_err-loaded.ensures.err)

pub loop-i-init : goal.loop-i-init
loop-i-init g c =
    let s = c.in_ok-start.field-0 in
    let r = c.in_ok-loaded.loaded in
    let begun = no_tables c.args.depth 0 (state_of g.S.Space.contents s) c.in_ok-start.ensures.ok in
    let before = state_of g.S.Space.contents s in
    one_more_kept c.args.keep c.args.depth 0 [] c.args.dsdt.now before (state_of g.S.Space.contents r) refl
    (no_tables_kept c.args.keep c.args.depth before begun (no_notes_yet c.args.depth before begun)) c.in_ok-loaded.ensures.ok

pub returns-in_err-loaded-2-clause-err : goal.returns-in_err-loaded-2-clause-err
returns-in_err-loaded-2-clause-err g c =
    let p = err_from_is_err_and c.from_residual-in_err-loaded-2.result c.from_residual-in_err-loaded-2.ensures.1 in
    let l = c.loop-i in
    let xs = c.args.ssdts.now in
    let x = c.index-ssdts-i.result in
    let below : l.i < length xs = grind arith in
    let here : drop l.i xs ≡ x ∷ drop (l.i + 1) xs = drop_more xs l.i x below ∙ ap (λ y. y ∷ drop (l.i + 1) xs) (sym c.index-ssdts-i.is) in
    let splits : xs ≡ take l.i xs ++ x ∷ drop (l.i + 1) xs = sym (take-append-drop l.i xs) ∙ ap (λ ys. take l.i xs ++ ys) here in
    let count : l.i + 1 ≡ length (c.args.dsdt.now ∷ take l.i xs) = omega (arith, length-take-le l.i xs (omega arith)) in
    rw (p.1, p.2) (next_fault c.args.depth (l.i + 1) (c.args.dsdt.now ∷ take l.i xs) (drop (l.i + 1) xs) (c.args.dsdt.now ∷ xs) x
    (with_notes (state_of g.S.Space.contents l.loaded) l.invariant.notes) c.in_err-loaded-2.field-0.0
    (ap (λ ys. c.args.dsdt.now ∷ ys) splits) count l.invariant.all c.in_err-loaded-2.ensures.err)

pub loop-i-preserved : goal.loop-i-preserved
loop-i-preserved g c =
    let l = c.loop-i in
    let r = c.in_ok-loaded-2.loaded in
    let xs = c.args.ssdts.now in
    let x = c.index-ssdts-i.result in
    let below : l.i < length xs = grind arith in
    let longer : take l.i xs ++ x ∷ [] ≡ take (l.i + 1) xs = ap (λ y. take l.i xs ++ y ∷ []) c.index-ssdts-i.is ∙ sym (take_more xs l.i x below) in
    let count : l.i + 1 ≡ length (c.args.dsdt.now ∷ take l.i xs) = omega (arith, length-take-le l.i xs (omega arith)) in
    let now = state_of g.S.Space.contents r in
    subst (λ ys. HasKept c.args.keep c.args.depth (c.args.dsdt.now ∷ ys) now) longer
    (one_more_kept c.args.keep c.args.depth (l.i + 1) (c.args.dsdt.now ∷ take l.i xs) x (state_of g.S.Space.contents l.loaded) now count l.invariant c.in_ok-loaded-2.ensures.ok)
