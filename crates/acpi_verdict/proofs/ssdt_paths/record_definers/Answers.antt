use Rattle.std.proofs.Common.{◌≡◌, ◌∷◌, [], ℕ, List, length, map, Option, sym, ap, subst, ◌∙◌, rules}
use Rattle.std.proofs.lemmas.List.{nil_from_length}
use Rattle.std.specs.List.{AllByRecursion}
use Rattle.std.specs.Vec.Iter.{into_iter_items}
use Rattle.acpi_name.specs.Names.{Segment}
use Rattle.acpi_verdict.specs.steps.Declaring.{args_in, with_args, AddsSsdt}
use Rattle.acpi_verdict.specs.steps.Overlays.{overlay_view}
use Rattle.acpi_verdict.proofs.AddedPaths.{IsWithArgs, paths_with_args, all_with_args, none_added, more_added}
use Rattle.acpi_verdict.proofs.ssdt_paths.record_definers.Goals as goal

pub loop-path-init : goal.loop-path-init
loop-path-init g c =
    let tree = overlay_view g.O.Space.contents c.args.overlay in
    let all : into_iter_items c.into_iter-path-iterator.result ≡ map (with_args tree) tree.defined = search rules in (
      subst (AllByRecursion (IsWithArgs tree)) (sym all) (all_with_args tree tree.defined),
      λ now h. subst (λ (ps : List (List Segment)). AddsSsdt c.args.number ps (args_in tree) c.args.declared.now now) (ap (map (λ e. e.0)) all ∙ paths_with_args tree tree.defined) h,
    )

pub loop-path-preserved : goal.loop-path-preserved
loop-path-preserved g c =
    let tree = overlay_view g.O.Space.contents c.args.overlay in
    let args = args_in tree in
    let number = c.args.number in
    let path = c.in-Some.path in
    let later = into_iter_items c.next.new.self in
    let front : into_iter_items c.loop-path.path-iterator ≡ (path, c.in-Some.args) ∷ later = search rules in
    let each : AllByRecursion (IsWithArgs tree) ((path, c.in-Some.args) ∷ later) = subst (AllByRecursion (IsWithArgs tree)) front c.loop-path.invariant.0 in
    let one : AddsSsdt number (path ∷ []) (λ p. args path) c.loop-path.declared c.add_path.new.declared =
    subst (λ (a : Option ℕ). AddsSsdt number (path ∷ []) (λ p. a) c.loop-path.declared c.add_path.new.declared) (sym each.0) c.in_ok-add_path.ensures in (
      each.1,
      λ now h. c.loop-path.invariant.1 now
          (subst (λ (ps : List (List Segment)). AddsSsdt number ps args c.loop-path.declared now) (ap (map (λ e. e.0)) (sym front))
          (more_added number args path (map (λ e. e.0) later) c.loop-path.declared c.add_path.new.declared now one h)),
    )

pub returns : goal.returns
returns g c =
    let args = args_in (overlay_view g.O.Space.contents c.args.overlay) in
    let number = c.args.number in
    let now = c.loop-path.declared in
    let none : length (into_iter_items c.loop-path.path-iterator) ≡ 0 = sym c.loop-path.path-iterator.rest.ok.0 ∙ c.in-None.ensures.steps.0 in
    c.loop-path.invariant.1 now (subst (λ (ps : List (List Segment)). AddsSsdt number ps args now now) (ap (map (λ e. e.0)) (sym (nil_from_length _ none))) (none_added number args now))
