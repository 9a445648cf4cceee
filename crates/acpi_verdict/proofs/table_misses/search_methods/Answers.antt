use Rattle.std.proofs.Common.{◌≡◌, ◌∷◌, ◌+◌, List, get_or, drop, map, sym, ap, subst, ◌∙◌, arith}
use Rattle.std.proofs.lemmas.List.{drop_more}
use Rattle.std.specs.FinMap.{get}
use Rattle.acpi_pass.specs.declared.notes.Method.{Method}
use Rattle.acpi_declare.specs.Namespace.{namespace_of}
use Rattle.acpi_declare.specs.Notes.{method_of}
use Rattle.acpi_space.specs.Spaces.{is_defined}
use Rattle.acpi_order.specs.Bodies.{with_counts}
use Rattle.acpi_verdict.specs.steps.Misses.{AddsMethods}
use Rattle.acpi_verdict.proofs.table_misses.search_methods.Goals as goal

pub loop-method-preserved : goal.loop-method-preserved
loop-method-preserved g c = λ now h.
    let i = c.loop-method.method-index in
    let methods = c.args.notes.now.methods.items in
    let m = c.method-item.result in
    let objects = namespace_of (g.O.Space.contents c.args.objects.now) in
    let wanted = is_defined (g.T.Space.contents c.args.among.now) in
    let same : c.deref-method-items.result.now ≡ methods = c.deref-method-items.ensures.value in
    let is : m ≡ get_or methods i m = subst (λ (l : List Method). m ≡ get_or l i m) same c.method-item.is in
    let here : drop i methods ≡ m ∷ drop (i + 1) methods = drop_more methods i m (grind arith) ∙ ap (λ y. y ∷ drop (i + 1) methods) (sym is) in
    c.loop-method.invariant now
    (subst (λ (l : List Method). AddsMethods wanted c.args.depth objects (map (with_counts (get c.args.notes.now.counts)) (map method_of l)) c.loop-method.misses now) (sym here)
    (c.search_method.new.misses, c.in_ok-search_method.ensures, h))
