use Rattle.std.proofs.Common.{◌≡◌, ◌∙◌, List, IfOk, ap, subst, slice_get}
use Rattle.acpi_module_uses.specs.ModuleNames.{ModuleNameParts}
use Rattle.acpi_module_uses.specs.NameViews.{name_views}
use Rattle.acpi_module_uses.proofs.Tables.{names_found, no_names_found}
use Rattle.acpi_module_uses.proofs.nodes.names_of_table.Goals as goal

pub returns-in-Some : goal.returns-in-Some
returns-in-Some c order entered refused =
    let s = c.args.survey.now in
    subst (λ (ns : List ModuleNameParts). IfOk c.names_in_nodes.result (λ v. name_views v.items ≡ ns))
    (names_found s c.args.index.now c.args.callables.now c.args.table (slice_get s.tables.items c.args.table) c.in-Some.nodes.now entered refused c.in-Some.ensures) (c.names_in_nodes.ensures order)

pub returns-in-None : goal.returns-in-None
returns-in-None c order entered refused =
    let s = c.args.survey.now in
    ap name_views c.new.ensures.items ∙ no_names_found s c.args.callables.now c.args.table (slice_get s.tables.items c.args.table) c.in-None.ensures
