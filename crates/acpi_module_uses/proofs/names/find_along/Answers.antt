use Rattle.std.proofs.Common.{◌≡◌, ◌∙◌, List, IfOk, ap, subst, map}
use Rattle.acpi_name.specs.NameRefs.{name_parts}
use Rattle.acpi_conditions.specs.Entries.{Entry, Turn}
use Rattle.acpi_conditions.specs.Known.{is_certain_name}
use Rattle.acpi_conditions.specs.Turns.{turn_of}
use Rattle.acpi_conditions.specs.Views.{WayView, seen_by_way}
use Rattle.acpi_module_uses.specs.steps.Steps.{view_along}
use Rattle.acpi_module_uses.proofs.names.find_along.Goals as goal

abbrev along : List Turn → List Entry → WayView
along way es = record { entries = es; way = way }

pub returns-clause-certain : goal.returns-clause-certain
returns-clause-certain c =
    let is : c.new-seen.result ≡ view_along c.args.survey.now c.args.turns.now = c.new-seen.ensures ∙ ap (along (map turn_of c.args.turns.now)) c.entries-entries.ensures in
    subst (λ (v : WayView). IfOk c.find.result (λ x. x.is_certain ≡ is_certain_name (seen_by_way v) c.args.scope.now (name_parts c.args.name))) is c.find.ensures.certain
