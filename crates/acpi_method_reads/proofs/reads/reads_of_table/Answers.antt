use Rattle.std.proofs.Common.{◌∙◌, ◌++◌, ◌∷◌, ◌+◌, List, ap, sym, append_assoc, drop, flat_map}
use Rattle.std.proofs.lemmas.List.{drop_more}
use Rattle.acpi_module_uses.specs.NameViews.{name_view, name_views}
use Rattle.acpi_module_uses.specs.declared.names.ModuleName.{ModuleName}
use Rattle.acpi_method_reads.specs.Reads.{reads_of_module_name}
use Rattle.acpi_method_reads.specs.declared.reads.MethodRead.{MethodRead}
use Rattle.acpi_method_reads.proofs.reads.reads_of_table.Goals as goal

pub each-preserved : goal.each-preserved
each-preserved c = λ o.
    let f = reads_of_module_name c.args.survey.now in
    let xs = c.deref-name-items.result.now in
    let i = c.each.name-index in
    let w = c.name-item.result in
    let rest = drop (i + 1) xs in
    ap (λ (us : List MethodRead). us ++ flat_map f (name_views rest)) (c.in_ok-put_module_name.ensures o)
    ∙ append_assoc c.each.reads.items (f (name_view w)) (flat_map f (name_views rest))
    ∙ ap (λ (ns : List ModuleName). c.each.reads.items ++ flat_map f (name_views ns)) (sym (drop_more xs i w c.each-test.true ∙ ap (λ (x : ModuleName). x ∷ rest) (sym c.name-item.is)))
    ∙ c.each.invariant o
