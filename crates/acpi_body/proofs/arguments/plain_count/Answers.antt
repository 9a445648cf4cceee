use Rattle.std.proofs.Common.{◌++◌, ◌∷◌, [], take, ap, ◌∙◌}
use Rattle.acpi_name.specs.NameRefs.{name_parts}
use Rattle.acpi_body.specs.Arguments.{namespace_of, args_there}
use Rattle.std.specs.FinMap.{get}
use Rattle.acpi_body.specs.steps.Setting.{count_in}
use Rattle.acpi_body.proofs.Overlaid.{depth_within, count_found, count_missed}
use Rattle.acpi_body.proofs.arguments.plain_count.Goals as goal

pub beginning-requires : goal.beginning-requires
beginning-requires g c =
    rw c.method-method.ensures (depth_within (namespace_of c.args.context.now.objects) c.args.locals.now c.args.context.now.method c.args.seg _ _ c.in_ok-nearest.ensures c.in-Some.is)

pub returns-in_ok-push-in-Some : goal.returns-in_ok-push-in-Some
unfolding count_in
returns-in_ok-push-in-Some g c =
    count_found (namespace_of c.args.context.now.objects) (get c.args.context.now.externals) c.args.context.now.method c.args.locals.now (name_parts c.args.name) c.args.seg _ _ _ _ c.requires c.in_ok-nearest.ensures c.in-Some.is
    (c.in_ok-push-in-Some.ensures.ok ∙ ap (λ p. p ++ c.args.seg ∷ []) (c.in_ok-path-in-Some.ensures ∙ ap (take _) c.method-method.ensures))
    (c.args_there.ensures ∙ ap (λ o. args_there (namespace_of o) c.args.locals.now c.push.new.self) c.space.ensures)

pub returns-in_ok-count-in-None : goal.returns-in_ok-count-in-None
unfolding count_in
returns-in_ok-count-in-None g c =
    count_missed (namespace_of c.args.context.now.objects) (get c.args.context.now.externals) c.args.context.now.method c.args.locals.now (name_parts c.args.name) c.args.seg _ _ c.requires c.in_ok-nearest.ensures c.in-None.is c.in_ok-count-in-None.ensures
