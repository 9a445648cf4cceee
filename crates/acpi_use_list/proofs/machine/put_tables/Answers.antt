use Rattle.std.proofs.Common.{◌≡◌, ◌∙◌, ◌++◌, List, ap, sym, add-one, append_assoc}
use Rattle.acpi_use_list.specs.Uses.{uses_of_table, uses_of_tables}
use Rattle.acpi_use_list.specs.steps.Indexes.{IsIndexOf}
use Rattle.acpi_use_list.specs.declared.uses.Use.{Use}
use Rattle.acpi_use_list.proofs.machine.put_tables.Goals as goal

pub each-preserved : goal.each-preserved
each-preserved c = λ o.
    let s = c.args.survey.now in
    let marks = c.args.callables.now in
    let old = c.args.found.now.items in
    let t = c.each.table in
    let is : IsIndexOf s c.in_ok-index.index = record { entered = c.in_ok-index.ensures.paths; refused = c.in_ok-index.ensures.refused } in
    c.in_ok-put_table.ensures o is
    ∙ ap (λ (us : List Use). us ++ uses_of_table s marks t) (c.each.invariant o)
    ∙ append_assoc old (uses_of_tables s marks t) (uses_of_table s marks t)
    ∙ ap (λ k. old ++ uses_of_tables s marks k) (sym (add-one t))
