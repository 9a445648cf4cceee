use Rattle.std.proofs.Common.{◌≡◌, ◌↔◌, [], ◌∷◌, List, false, subst, refl}
use Rattle.std.specs.Prelude.{IsTrue}
use Rattle.std.proofs.lemmas.Result.{err_from_is_err_and}
use Rattle.acpi_name.specs.Names.{Segment}
use Rattle.acpi_space.specs.Laws.{Among}
use Rattle.acpi_space.specs.Overlays.{contents_over, lower_of}
use Rattle.acpi_space.specs.Spaces.{PathMap, is_defined}
use Rattle.acpi_tree.specs.declared.object.Object.{Object}
use Rattle.acpi_declare.specs.Declaring.{objects_so_far, state_of}
use Rattle.acpi_verdict.proofs.Overlays.{is_over, is_overlay}
use Rattle.acpi_verdict.proofs.overlay.overlay_ssdt.Goals as goal

pub returns-in_err-declared-clause-err : goal.returns-in_err-declared-clause-err
returns-in_err-declared-clause-err g c = λ bytes loads.
    let p = err_from_is_err_and c.from_residual.result c.from_residual.ensures.1 in
    rw (p.1, p.2) (c.in_err-declared.ensures.err (bytes ∷ []) [] loads)

pub returns-clause-ok : goal.returns-clause-ok
returns-clause-ok g c = λ bytes loads.
    let contents = g.S.Space.contents in
    let d = c.in_ok-declared.declared in
    let items = c.in_ok-defined.defined.items in
    let below : PathMap Object = contents (objects_so_far c.args.dsdt.now) in
    let both : PathMap Object = contents_over contents (objects_so_far d) in
    let are : (p : List Segment) → Among items p ↔ (IsTrue (is_defined both p) × (is_defined below p ≡ false)) =
    subst (λ (m : PathMap Object). (p : List Segment) → Among items p ↔ (IsTrue (is_defined both p) × (is_defined m p ≡ false))) c.in_ok-declared.ensures.lower
    (subst (λ (o : _). (p : List Segment) → Among items p ↔ (IsTrue (is_defined (contents_over contents o) p) × (is_defined (lower_of contents o) p ≡ false))) c.objects.ensures
    c.in_ok-defined.ensures.are) in
    let one = state_of contents c.args.dsdt.now in
    let now = state_of (contents_over contents) d in
    let over = is_over c.args.depth bytes c.args.ssdt.now one now loads (c.in_ok-declared.ensures.ok (bytes ∷ []) loads) in
    is_overlay c.args.depth bytes c.args.ssdt.now one now loads over below both refl refl items are
