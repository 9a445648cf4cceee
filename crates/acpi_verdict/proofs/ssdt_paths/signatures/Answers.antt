use Rattle.std.proofs.Common.{◌≡◌, ◌∷◌, Option, ap, ◌∙◌, rules}
use Rattle.std.specs.FinMap.{get}
use Rattle.std.specs.Option.{option_map}
use Rattle.std.specs.Vec.Iter.{into_iter_items}
use Rattle.acpi_tree.specs.Objects.{object_view}
use Rattle.acpi_tree.specs.declared.object.Object.{Object}
use Rattle.acpi_verdict.specs.steps.Declaring.{args_in}
use Rattle.acpi_verdict.specs.steps.Defining.{args_at}
use Rattle.acpi_verdict.specs.steps.Overlays.{overlay_view}
use Rattle.acpi_verdict.proofs.AddedPaths.{one_with_args}
use Rattle.acpi_verdict.proofs.ssdt_paths.signatures.Goals as goal

pub loop-path-preserved : goal.loop-path-preserved
loop-path-preserved g c =
    let contents = g.O.Space.contents in
    let tree = overlay_view contents c.args.overlay in
    let path = c.in-Some.path in
    let front : into_iter_items c.loop-path.path-iterator ≡ path ∷ into_iter_items c.next.new.self = search rules in
    let same : c.method_args-args.result ≡ args_in tree path =
    c.method_args-args.ensures ∙ ap (λ (o : Option Object). args_at (option_map object_view o)) (c.get.ensures ∙ ap (λ s. get (contents s) path) c.objects.ensures) in
    one_with_args tree path c.method_args-args.result c.loop-path.found.items c.push.new.self.items _ (into_iter_items c.loop-path.path-iterator) (into_iter_items c.next.new.self)
    c.in_ok-push.ensures.items same front c.loop-path.invariant
