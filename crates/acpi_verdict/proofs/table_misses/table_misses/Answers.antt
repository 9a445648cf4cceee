use Rattle.std.proofs.Common.{◌≡◌, ◌∷◌, [], ◌+◌, List, drop, map, refl, sym, ap, subst, ◌∙◌, arith}
use Rattle.std.specs.Prelude.{IsTrue}
use Rattle.std.proofs.lemmas.List.{drop_more, drop_all}
use Rattle.std.specs.FinMap.{empty}
use Rattle.acpi_pass.specs.declared.notes.TableNotes.{TableNotes}
use Rattle.acpi_declare.specs.Declaring.{state_of}
use Rattle.acpi_pass.specs.Pending.{IsMissedLink}
use Rattle.acpi_declare.specs.Namespace.{namespace_of}
use Rattle.acpi_declare.specs.Notes.{notes_of}
use Rattle.acpi_space.specs.Laws.{Among}
use Rattle.acpi_space.specs.Spaces.{PathMap, is_defined}
use Rattle.acpi_body.proofs.Grown.{grows_as}
use Rattle.acpi_order.specs.steps.Noted.{noted, all_noted}
use Rattle.acpi_verdict.specs.declared.misses.Misses.{Misses}
use Rattle.acpi_verdict.specs.steps.Misses.{AddsMethods}
use Rattle.acpi_verdict.proofs.TableMisses.{adds_methods_both}
use Rattle.acpi_verdict.proofs.table_misses.table_misses.Goals as goal

pub loop-notes-init : goal.loop-notes-init
loop-notes-init g c = λ now h. h

pub loop-notes-preserved : goal.loop-notes-preserved
loop-notes-preserved g c = λ now h.
    let i = c.loop-notes.notes-index in
    let notes = c.notes-notes-items.result.now in
    let t = c.notes-item.result in
    let objects = namespace_of (g.O.Space.contents c.args.objects.now) in
    let wanted = is_defined (g.T.Space.contents c.args.among.now) in
    let here : drop i notes ≡ t ∷ drop (i + 1) notes = drop_more notes i t (grind arith) ∙ ap (λ y. y ∷ drop (i + 1) notes) (sym c.notes-item.is) in
    c.loop-notes.invariant now
    (subst (λ (l : List TableNotes). AddsMethods wanted c.args.depth objects (all_noted (map notes_of l)) c.loop-notes.misses now) (sym here)
    (adds_methods_both wanted c.args.depth objects (noted (notes_of t)) (all_noted (map notes_of (drop (i + 1) notes))) c.loop-notes.misses
    c.search_methods.new.misses now c.in_ok-search_methods.ensures h))

pub returns : goal.returns
returns g c =
    let objects = namespace_of (g.O.Space.contents c.args.objects.now) in
    let wanted = is_defined (g.T.Space.contents c.args.among.now) in
    let state = state_of g.S.Space.contents c.args.tables.now in
    let notes = c.notes-notes-items.result.now in
    let start : Misses = record { missed = c.add_paths.new.paths; awaited = c.new.result } in
    let none : drop c.loop-notes.notes-index notes ≡ [] = drop_all _ _ c.loop-notes-test.false in
    let all : AddsMethods wanted c.args.depth objects (all_noted (map notes_of notes)) start c.loop-notes.misses =
    c.loop-notes.invariant c.loop-notes.misses
    (subst (λ (l : List TableNotes). AddsMethods wanted c.args.depth objects (all_noted (map notes_of l)) c.loop-notes.misses c.loop-notes.misses) (sym none) refl) in
    record {
      linked = c.add_paths.new.paths;
      links_are = grows_as c.args.missed c.add_paths.new.paths (Among c.in_ok-link_misses_over.field-0.items)
          (λ p. IsMissedLink objects state.links p × IsTrue (wanted p)) c.in_ok-link_misses_over.ensures
          c.in_ok-add_paths.ensures;
      bodies = subst (λ (l : List TableNotes). AddsMethods wanted c.args.depth objects (all_noted (map notes_of l)) (record { missed = c.add_paths.new.paths; awaited = empty })
          c.loop-notes.misses)
          c.notes-notes-items.ensures
          (subst (λ (w : PathMap _). AddsMethods wanted c.args.depth objects (all_noted (map notes_of notes)) (record { missed = c.add_paths.new.paths; awaited = w })
          c.loop-notes.misses) c.new.ensures all);
    }
