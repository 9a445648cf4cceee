use Rattle.std.proofs.Common.{◌≡◌, ◌∷◌, [], ◌+◌, List, drop, map, sym, ap, subst, ◌∙◌, arith}
use Rattle.std.specs.Prelude.{IsTrue}
use Rattle.std.proofs.lemmas.List.{drop_more, drop_all}
use Rattle.acpi_name.specs.Names.{Segment}
use Rattle.acpi_pass.specs.declared.notes.TableNotes.{TableNotes}
use Rattle.acpi_declare.specs.Notes.{notes_of}
use Rattle.acpi_space.specs.Laws.{Among}
use Rattle.acpi_space.specs.Spaces.{is_defined}
use Rattle.acpi_body.specs.steps.Gathering.{Paths, Grows}
use Rattle.acpi_verdict.specs.steps.Misses.{IsMissedScope}
use Rattle.acpi_verdict.proofs.WantedPaths.{grow_scopes, no_scopes}
use Rattle.acpi_verdict.proofs.table_misses.missed_scopes.Goals as goal

pub loop-table-init : goal.loop-table-init
loop-table-init g c = λ now h.
    let wanted = is_defined (g.T.Space.contents c.args.among.now) in
    subst (λ (m : Paths). Grows m now (λ (p : List Segment). IsMissedScope (map notes_of c.args.notes.now) p × IsTrue (wanted p))) c.new-missed.ensures h

pub loop-table-preserved : goal.loop-table-preserved
loop-table-preserved g c = λ now h.
    let wanted = is_defined (g.T.Space.contents c.args.among.now) in
    let notes = c.args.notes.now in
    let i = c.loop-table.table-index in
    let t = c.table-item.result in
    let here : drop i notes ≡ t ∷ drop (i + 1) notes = drop_more notes i t (grind arith) ∙ ap (λ y. y ∷ drop (i + 1) notes) (sym c.table-item.is) in
    let added : Grows c.loop-table.missed c.add_among.new.missed (λ (p : List Segment). Among t.missed.items p × IsTrue (wanted p)) =
    subst (λ (ps : List (List Segment)). Grows c.loop-table.missed c.add_among.new.missed (λ (p : List Segment). Among ps p × IsTrue (wanted p))) c.deref.ensures.value c.in_ok-add_among.ensures in
    c.loop-table.invariant now
    (subst (λ (l : List TableNotes). Grows c.loop-table.missed now (λ (p : List Segment). IsMissedScope (map notes_of l) p × IsTrue (wanted p))) (sym here)
    (grow_scopes wanted c.loop-table.missed c.add_among.new.missed now (notes_of t) (map notes_of (drop (i + 1) notes)) added h))

pub returns : goal.returns
returns g c =
    let wanted = is_defined (g.T.Space.contents c.args.among.now) in
    let none : drop c.loop-table.table-index c.args.notes.now ≡ [] = drop_all _ _ c.loop-table-test.false in
    c.loop-table.invariant c.loop-table.missed
    (subst (λ (l : List TableNotes). Grows c.loop-table.missed c.loop-table.missed (λ (p : List Segment). IsMissedScope (map notes_of l) p × IsTrue (wanted p))) (sym none)
    (no_scopes wanted c.loop-table.missed))
