use Rattle.std.proofs.Common.{ap, ap₂, ◌∙◌, length}
use Rattle.std.specs.Option.{option_map}
use Rattle.acpi_space.specs.Spaces.{is_defined}
use Rattle.acpi_space.specs.Search.{nearest_scope}
use Rattle.acpi_body.specs.Arguments.{namespace_of}
use Rattle.acpi_body.proofs.Overlaid.{is_defined-namespace, nearest_of}
use Rattle.acpi_body.proofs.arguments.nearest.Goals as goal

pub returns : goal.returns
returns g c =
    nearest_of (namespace_of c.args.context.now.objects) c.args.locals.now c.args.context.now.method c.args.seg _ _ _ c.deeper.ensures
    (c.in_ok-local.ensures.nearest ∙ ap (λ s. option_map length (nearest_scope (is_defined c.args.locals.now) s c.args.seg)) c.method-method.ensures)
    (c.in_ok-object.ensures ∙ ap₂ (λ o s. option_map length (nearest_scope (is_defined o) s c.args.seg)) c.space-space.ensures c.method-method.ensures
    ∙ ap (λ d. option_map length (nearest_scope d c.args.context.now.method c.args.seg)) (is_defined-namespace c.args.context.now.objects))
