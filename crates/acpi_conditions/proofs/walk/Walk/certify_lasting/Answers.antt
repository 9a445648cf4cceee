use Rattle.std.proofs.Common.{List, ◌++◌, ap, ◌∙◌}
use Rattle.acpi_conditions.specs.Known.{Certain}
use Rattle.acpi_conditions.specs.steps.Moves.{with_certain}
use Rattle.acpi_conditions.proofs.WalkSteps.{on_ok_map}
use Rattle.acpi_conditions.proofs.walk.Walk.certify_lasting.Goals as goal

pub returns : goal.returns
returns c = on_ok_map c.certify_entry.result _ _ (λ e. e ∙ ap (λ (l : List Certain). with_certain (l ++ c.args.self.now.known.certain) c.args.self.now) c.lasting_at-presence.ensures) c.certify_entry.ensures
