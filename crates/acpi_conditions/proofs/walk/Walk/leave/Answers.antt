use Rattle.std.proofs.Common.{false, Some, sym, ap, ◌∙◌}
use Rattle.acpi_conditions.specs.Walk.{Walk}
use Rattle.acpi_conditions.specs.declared.packages.Kind.{Kind}
use Rattle.acpi_conditions.specs.steps.Packages.{kind_of}
use Rattle.acpi_conditions.specs.steps.Moves.{gone_out}
use Rattle.acpi_conditions.proofs.WalkSteps.{on_ok_map, left_while}
use Rattle.acpi_conditions.proofs.walk.Walk.leave.Goals as goal

pub returns-in_ok-keep_returns-in-Some-Body : goal.returns-in_ok-keep_returns-in-Some-Body
returns-in_ok-keep_returns-in-Some-Body c =
    on_ok_map c.go_out-in-Some-Body.result _ _ (λ e. e ∙ ap (λ (w : Walk). gone_out false w.packages w) c.in_ok-keep_returns-in-Some-Body.ensures ∙ left_while c.args.self.now (ap (λ (k : Kind). Some (kind_of k)) (sym c.in-Some-Body.field-0-is) ∙ c.in-Some-Body.ensures)) c.go_out-in-Some-Body.ensures
