use Rattle.std.proofs.Common.{◌≡◌, ◌∙◌, [], ◌∷◌, List, map, not, filter, refl, ap, sym, subst}
use Rattle.std.specs.FinMap.{keys}
use Rattle.std.proofs.lemmas.Result.{err_from_is_err_and}
use Rattle.acpi_name.specs.Names.{Segment}
use Rattle.acpi_space.specs.Laws.{Among}
use Rattle.acpi_space.specs.Spaces.{is_defined}
use Rattle.acpi_body.specs.steps.Gathering.{Grows}
use Rattle.acpi_declare.specs.Declaring.{objects_so_far, state_of}
use Rattle.acpi_declare.specs.Links.{links_at}
use Rattle.acpi_declare.specs.Loads.{IsLoad}
use Rattle.acpi_declare.specs.Namespace.{namespace_of}
use Rattle.acpi_declare.specs.Notes.{notes_of}
use Rattle.acpi_declare.proofs.Refusals.{refused_has_no_load}
use Rattle.acpi_singles.proofs.SingleLoads.{two_notes, is_single}
use Rattle.acpi_singles.proofs.pair.single_shared.Goals as goal

pub returns-in_err-first-clause-err : goal.returns-in_err-first-clause-err
returns-in_err-first-clause-err g c =
    let p = err_from_is_err_and c.from_residual.result c.from_residual.ensures.1 in
    rw (p.1, p.2) (c.in_err-first.ensures.err (c.args.ssdt.now ∷ []))

pub returns-in_err-first-clause-none : goal.returns-in_err-first-clause-none
returns-in_err-first-clause-none g c =
    let p = err_from_is_err_and c.from_residual.result c.from_residual.ensures.1 in
    rw (p.1, p.2) (λ some. refused_has_no_load c.args.depth (c.args.dsdt.now ∷ c.args.ssdt.now ∷ []) c.in_err-first.field-0.0 (c.in_err-first.ensures.err (c.args.ssdt.now ∷ [])) some)

pub returns-in_err-both-clause-err : goal.returns-in_err-both-clause-err
returns-in_err-both-clause-err g c =
    let p = err_from_is_err_and c.from_residual-in_err-both.result c.from_residual-in_err-both.ensures.1 in
    rw (p.1, p.2) (c.in_err-both.ensures.err (c.args.dsdt.now ∷ []) [] c.in_ok-first.ensures.ok)

pub returns-in_err-both-clause-none : goal.returns-in_err-both-clause-none
returns-in_err-both-clause-none g c =
    let p = err_from_is_err_and c.from_residual-in_err-both.result c.from_residual-in_err-both.ensures.1 in
    rw (p.1, p.2)
    (λ some. refused_has_no_load c.args.depth (c.args.dsdt.now ∷ c.args.ssdt.now ∷ []) c.in_err-both.field-0.0
    (c.in_err-both.ensures.err (c.args.dsdt.now ∷ []) [] c.in_ok-first.ensures.ok) some)

pub search_tables-requires : goal.search_tables-requires
search_tables-requires g c =
    let both = c.in_ok-both.both in
    let two = state_of g.S.Space.contents both in
    let has = c.in_ok-both.ensures.ok (c.args.dsdt.now ∷ []) c.in_ok-first.ensures.ok in
    two_notes c.args.depth c.args.dsdt.now c.args.ssdt.now two c.into_parts-objects.result.2.items has
    (ap (map notes_of) (c.into_parts-objects.ensures.notes ∙ c.in_ok-finish.ensures.same_notes))

pub returns-clause-ok : goal.returns-clause-ok
returns-clause-ok g c =
    let first = c.in_ok-first.first in
    let both = c.in_ok-both.both in
    let parts = c.into_parts-objects in
    let one = state_of g.S.Space.contents first in
    let two = state_of g.S.Space.contents both in
    let has = c.in_ok-both.ensures.ok (c.args.dsdt.now ∷ []) c.in_ok-first.ensures.ok in
    let before = g.S.Space.contents (objects_so_far first) in
    let now = g.S.Space.contents parts.result.0 in
    let same : parts.result.0 ≡ objects_so_far both = parts.ensures.objects ∙ c.in_ok-finish.ensures.objects in
    let load : IsLoad c.args.depth (c.args.dsdt.now ∷ c.args.ssdt.now ∷ []) (namespace_of now) (links_at parts.result.1) =
    rw (parts.ensures.objects, parts.ensures.links) (c.in_ok-finish.ensures.load c.args.depth (c.args.dsdt.now ∷ c.args.ssdt.now ∷ []) has) in
    let known : Grows c.new-known.result c.add_paths.new.paths (Among (keys before)) =
    subst (λ (l : List (List Segment)). Grows c.new-known.result c.add_paths.new.paths (Among l)) (c.in_ok-paths_of.ensures ∙ ap (λ s. keys (g.S.Space.contents s)) c.objects.ensures)
    c.in_ok-add_paths.ensures in
    let all : c.in_ok-defined.defined.items ≡ keys now = c.in_ok-defined.ensures ∙ ap (λ s. keys (g.S.Space.contents s)) (c.objects-2.ensures ∙ sym same) in
    is_single c.args.depth c.args.dsdt.now c.args.ssdt.now one two c.in_ok-first.ensures.ok has before now refl (ap (λ s. namespace_of (g.S.Space.contents s)) same) (links_at parts.result.1) load
    (map notes_of parts.result.2.items) (ap (map notes_of) (parts.ensures.notes ∙ c.in_ok-finish.ensures.same_notes)) c.add_paths-2.new.paths c.in_ok-bodies.field-0 c.in_ok-bodies.ensures
    c.new-known.result c.add_paths.new.paths c.new-known.ensures known c.keep_new.new.paths.items (c.keep_new.ensures ∙ ap (filter (λ p. not (is_defined c.add_paths.new.paths p))) all)
    c.new-missed.result c.new-missed.ensures c.in_ok-link_misses.field-0.items c.in_ok-add_paths-2.ensures c.in_ok-link_misses.ensures c.in_ok-missed.missed.items c.in_ok-missed.ensures
