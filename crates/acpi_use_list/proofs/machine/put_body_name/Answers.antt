use Rattle.std.proofs.Common.{◌≡◌, ◌∙◌, ◌++◌, List, ap}
use Rattle.std.proofs.lemmas.Result.{on_ok_weaker}
use Rattle.acpi_entries.specs.ConditionViews.{link_view}
use Rattle.acpi_locals.specs.Callables.{any_is_callable, named_entries}
use Rattle.acpi_locals.specs.LocalViews.{name_view}
use Rattle.acpi_use_list.specs.UseRoles.{use_role}
use Rattle.acpi_use_list.specs.Uses.{uses_of_link}
use Rattle.acpi_use_list.specs.declared.roles.UseRole.{UseRole}
use Rattle.acpi_use_list.specs.declared.uses.UseSite.{UseSite}
use Rattle.acpi_use_list.proofs.machine.put_body_name.Goals as goal

pub returns : goal.returns
returns c =
    let s = c.args.survey.now in
    let n = name_view c.args.name.now in
    let l = link_view c.args.name.now.link in
    let old = c.args.found.now.items in
    let role : c.use_role-role.result ≡ use_role (any_is_callable c.args.callables.now (named_entries s n)) n.role =
    c.use_role-role.ensures ∙ ap (λ t. use_role t n.role) c.in_ok-names_method.ensures.marks in
    on_ok_weaker c.put_uses.result
    (λ put. put
    ∙ ap (λ (r : UseRole). old ++ uses_of_link l r c.line_site-site.result) role
    ∙ ap (λ (t : UseSite). old ++ uses_of_link l (use_role (any_is_callable c.args.callables.now (named_entries s n)) n.role) t) c.line_site-site.ensures)
    c.put_uses.ensures
