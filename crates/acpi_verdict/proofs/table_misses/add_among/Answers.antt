use Rattle.std.proofs.Common.{◌≡◌, ◌∷◌, [], ◌+◌, List, drop, sym, ap, subst, ◌∙◌, arith, rules}
use Rattle.std.specs.Prelude.{IsTrue}
use Rattle.std.proofs.lemmas.List.{drop_more, drop_all}
use Rattle.acpi_name.specs.Names.{Segment}
use Rattle.acpi_space.specs.Laws.{Among}
use Rattle.acpi_space.specs.Spaces.{is_defined}
use Rattle.acpi_body.specs.Arguments.{with_path}
use Rattle.acpi_body.specs.steps.Gathering.{Paths, Grows}
use Rattle.acpi_verdict.proofs.WantedPaths.{grow_none, grow_wanted, grow_unwanted}
use Rattle.acpi_verdict.proofs.table_misses.add_among.Goals.{then-is_some+in_ok-copy+in_ok-add_path, else-is_some}
use Rattle.acpi_verdict.proofs.table_misses.add_among.Goals as goal

pub loop-path-init : goal.loop-path-init
loop-path-init g c = λ now h. h

pub loop-path-preserved : goal.loop-path-preserved
loop-path-preserved g c = λ now h.
    let wanted = is_defined (g.T.Space.contents c.args.among.now) in
    let paths = c.args.paths.now in
    let i = c.loop-path.path-index in
    let q = c.path-item.result in
    let here : drop i paths ≡ q ∷ drop (i + 1) paths = drop_more paths i q (grind arith) ∙ ap (λ y. y ∷ drop (i + 1) paths) (sym c.path-item.is) in
    let test : c.is_some.result ≡ wanted q = search rules in
    c.loop-path.invariant now
    (subst (λ (ps : List (List Segment)). Grows c.loop-path.missed now (λ (p : List Segment). Among ps p × IsTrue (wanted p))) (sym here)
    (elim c.if-is_some.branch [
      | then-is_some+in_ok-copy+in_ok-add_path w ↦
          grow_wanted wanted c.loop-path.missed c.if-is_some.missed now q (drop (i + 1) paths) (sym test ∙ w.if-is_some.true)
          (w.missed-is ∙ w.in_ok-add_path.ensures ∙ ap (with_path c.loop-path.missed) w.in_ok-copy.ensures) h
      | else-is_some w ↦
          grow_unwanted wanted c.loop-path.missed now q (drop (i + 1) paths) (sym test ∙ w.if-is_some.false)
          (subst (λ (m : Paths). Grows m now (λ (p : List Segment). Among (drop (i + 1) paths) p × IsTrue (wanted p))) w.missed-is h)
    ]))

pub returns : goal.returns
returns g c =
    let wanted = is_defined (g.T.Space.contents c.args.among.now) in
    let none : drop c.loop-path.path-index c.args.paths.now ≡ [] = drop_all _ _ c.loop-path-test.false in
    c.loop-path.invariant c.loop-path.missed
    (subst (λ (ps : List (List Segment)). Grows c.loop-path.missed c.loop-path.missed (λ (p : List Segment). Among ps p × IsTrue (wanted p))) (sym none) (grow_none wanted c.loop-path.missed))
