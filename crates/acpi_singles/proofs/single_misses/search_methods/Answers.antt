use Rattle.std.proofs.Common.{◌≡◌, ◌∙◌, [], ◌∷◌, ℕ, List, map, refl, sym, subst, rules}
use Rattle.std.proofs.lemmas.List.{nil_from_length}
use Rattle.std.specs.FinMap.{get}
use Rattle.std.specs.Vec.Iter.{into_iter_items}
use Rattle.acpi_space.specs.Spaces.{PathMap}
use Rattle.acpi_pass.specs.declared.notes.Method.{Method}
use Rattle.acpi_declare.specs.Namespace.{namespace_of}
use Rattle.acpi_declare.specs.Notes.{method_of}
use Rattle.acpi_order.specs.Bodies.{with_counts}
use Rattle.acpi_machine.specs.MachineView.{bodies_of}
use Rattle.acpi_machine.specs.steps.Adding.{AddsBodies}
use Rattle.acpi_machine.proofs.AddedBodies.{adds_both}
use Rattle.acpi_verdict.specs.steps.Misses.{all_paths, AddsMethods}
use Rattle.acpi_singles.proofs.single_misses.search_methods.Goals as goal

pub loop-method-preserved : goal.loop-method-preserved
loop-method-preserved g c =
    let objects = namespace_of (g.S.Space.contents c.args.objects.now) in
    let counts = get c.args.counts.now in
    let m = c.in-Some.method in
    let later = into_iter_items c.next.new.self in
    let front : into_iter_items c.loop-method.method-iterator ≡ m ∷ later = search rules in (
      (λ now h.
          c.loop-method.invariant.0 now
          (subst (λ (l : List Method). AddsBodies c.args.depth objects (map (with_counts counts) (map method_of l)) (bodies_of c.loop-method.bodies) now) (sym front)
          (adds_both c.args.depth objects (with_counts counts (method_of m) ∷ []) (map (with_counts counts) (map method_of later)) (bodies_of c.loop-method.bodies)
          (bodies_of c.search_method.new.bodies) now c.in_ok-search_method.ensures.bodies h))),
      (λ now h.
          c.loop-method.invariant.1 now
          (subst (λ (l : List Method). AddsMethods all_paths c.args.depth objects (map (with_counts counts) (map method_of l)) c.loop-method.misses now) (sym front)
          (c.search_method.new.misses, c.in_ok-search_method.ensures.misses, h))),
    )

pub returns-clause-bodies : goal.returns-clause-bodies
returns-clause-bodies g c =
    let objects = namespace_of (g.S.Space.contents c.args.objects.now) in
    let counts = get c.args.counts.now in
    let last = bodies_of c.loop-method.bodies in
    let none : into_iter_items c.loop-method.method-iterator ≡ [] = nil_from_length _ (sym c.loop-method.method-iterator.rest.ok.0 ∙ c.in-None.ensures.steps.0) in
    let all : into_iter_items c.into_iter-method-iterator.result ≡ c.args.methods.items = search rules in
    subst (λ (l : List Method). AddsBodies c.args.depth objects (map (with_counts counts) (map method_of l)) (bodies_of c.args.bodies.now) last) all
    (c.loop-method.invariant.0 last
    (subst (λ (l : List Method). AddsBodies c.args.depth objects (map (with_counts counts) (map method_of l)) last last) (sym none) refl))

pub returns-clause-misses : goal.returns-clause-misses
returns-clause-misses g c =
    let objects = namespace_of (g.S.Space.contents c.args.objects.now) in
    let counts = get c.args.counts.now in
    let last = c.loop-method.misses in
    let none : into_iter_items c.loop-method.method-iterator ≡ [] = nil_from_length _ (sym c.loop-method.method-iterator.rest.ok.0 ∙ c.in-None.ensures.steps.0) in
    let all : into_iter_items c.into_iter-method-iterator.result ≡ c.args.methods.items = search rules in
    subst (λ (w : PathMap ℕ). AddsMethods all_paths c.args.depth objects (map (with_counts counts) (map method_of c.args.methods.items)) (record { missed = c.args.missed; awaited = w }) last) c.new.ensures
    (subst (λ (l : List Method). AddsMethods all_paths c.args.depth objects (map (with_counts counts) (map method_of l)) (record { missed = c.args.missed; awaited = c.new.result }) last) all
    (c.loop-method.invariant.1 last
    (subst (λ (l : List Method). AddsMethods all_paths c.args.depth objects (map (with_counts counts) (map method_of l)) last last) (sym none) refl)))
