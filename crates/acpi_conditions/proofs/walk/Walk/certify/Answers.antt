use Rattle.std.proofs.Common.{[], ◌∷◌, ap, ◌∙◌}
use Rattle.acpi_conditions.specs.Known.{Certain}
use Rattle.acpi_conditions.specs.Walk.{Walk}
use Rattle.acpi_conditions.specs.steps.Moves.{with_certain}
use Rattle.acpi_conditions.proofs.KeptWalks.{certain_kept, certain_same}
use Rattle.acpi_conditions.proofs.walk.Walk.certify.Goals as goal

pub invariant_of-self-2 : goal.invariant_of-self-2
invariant_of-self-2 c = certain_kept c.self.inside c.self.invariant c.certify.new.self (record { path = c.args.path.now; is_scope = c.args.is_scope } ∷ []) c.in_ok-certify.ensures.ok

pub returns : goal.returns
returns c =
    let x : Certain = record { path = c.args.path.now; is_scope = c.args.is_scope } in
    certain_same c.self.inside c.self.invariant c.certify.new.self (x ∷ []) c.in_ok-certify.ensures.ok ∙ ap (λ (w : Walk). with_certain (x ∷ w.known.certain) w) c.self.view_is
