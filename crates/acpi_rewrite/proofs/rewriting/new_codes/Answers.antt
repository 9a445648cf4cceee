use Rattle.std.proofs.Common.{◌≡◌, ◌++◌, ◌∷◌, [], List, map, take, subst, ◌∙◌, rules}
use Rattle.std.specs.FinMap.{get}
use Rattle.std.specs.List.{AllZip}
use Rattle.std.proofs.lemmas.List.{take_all}
use Rattle.acpi_declare.specs.Namespace.{namespace_of}
use Rattle.acpi_declare.specs.Notes.{method_of}
use Rattle.acpi_pass.specs.declared.notes.Method.{Method}
use Rattle.acpi_order.specs.Bodies.{with_counts}
use Rattle.acpi_rewrite.specs.Rewriting.{IsNewCode}
use Rattle.acpi_rewrite.proofs.Recoding.{zip_more, zip_mapped}
use Rattle.acpi_rewrite.proofs.rewriting.new_codes.Goals as goal

pub loop-method-preserved : goal.loop-method-preserved
loop-method-preserved g c =
    let pushed : c.push.new.self.items ≡ c.loop-method.codes.items ++ c.in_ok-new_code.field-0 ∷ [] = search rules in
    zip_more (λ m code. IsNewCode c.args.depth (namespace_of (g.S.Space.contents c.args.objects.now)) (with_counts (get c.args.notes.now.counts) (method_of m)) code)
    c.deref-method-items.result.now c.loop-method.codes.items c.push.new.self.items c.loop-method.method-index c.method-item.result c.in_ok-new_code.field-0
    (search rules) (search rules) c.loop-method.invariant c.in_ok-new_code.ensures pushed

pub returns : goal.returns
returns g c =
    let methods = c.args.notes.now.methods.items in
    let IsNew = IsNewCode c.args.depth (namespace_of (g.S.Space.contents c.args.objects.now)) in
    let counts = get c.args.notes.now.counts in
    let all : take c.loop-method.method-index c.deref-method-items.result.now ≡ methods =
    take_all c.loop-method.method-index c.deref-method-items.result.now c.loop-method-test.false ∙ c.deref-method-items.ensures.value in
    zip_mapped IsNew (with_counts counts) (map method_of methods) c.loop-method.codes.items
    (zip_mapped (λ m code. IsNew (with_counts counts m) code) method_of methods c.loop-method.codes.items
    (subst (λ (ms : List Method). AllZip (λ m code. IsNew (with_counts counts (method_of m)) code) ms c.loop-method.codes.items) all c.loop-method.invariant))
