use Rattle.std.specs.Global.{Vec}
use Rattle.std.specs.List.{list_any}
use Rattle.std.proofs.Common.{◌∙◌, is_some, List, ap}
use Rattle.acpi_name.specs.Names.{plain_segment}
use Rattle.acpi_space.specs.Search.{tries}
use Rattle.acpi_conditions.specs.Entries.{Path}
use Rattle.acpi_name_checks.specs.Guarding.{is_one_shown}
use Rattle.acpi_name_checks.proofs.Standing.{is_shown_here}
use Rattle.acpi_name_checks.proofs.guards.Guards.shows.Goals as goal

pub returns : goal.returns
returns c =
    let plain = c.is_some-is_plain.result in
    let tried = c.deref.result.now in
    is_shown_here _ _ _ _ _ _ c.args.self.now.stands c.args.name.now plain tried _
    (c.is_shown.ensures ∙ ap (λ (vs : List (Vec Path)). list_any (λ (v : Vec Path). is_one_shown plain tried v.items) vs) c.deref-2.ensures.value)
    (c.is_some-is_plain.ensures ∙ ap is_some c.plain.ensures ∙ ap (λ n. is_some (plain_segment n)) c.view-name.ensures.parts)
    (c.deref.ensures.value ∙ c.in_ok-tried.ensures ∙ ap (tries c.args.self.now.scope.now) c.view-name.ensures.parts)
