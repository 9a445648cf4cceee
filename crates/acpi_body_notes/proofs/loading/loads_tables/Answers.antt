use Rattle.std.proofs.Common.{◌∙◌, sym}
use Rattle.acpi_body_notes.proofs.LoadingBodies.{loads_exactly, loads_not}
use Rattle.acpi_body_notes.proofs.loading.loads_tables.Goals as goal

pub returns-in_ok-body : goal.returns-in_ok-body
returns-in_ok-body c = λ tile.
    let exact = loads_exactly c.args.survey.now c.args.number c.in_ok-body.body (c.in_ok-body.ensures tile) in
    (λ e. exact.0 (sym c.body_loads.ensures ∙ e), λ h. c.body_loads.ensures ∙ exact.1 h)

pub returns-else-may_load : goal.returns-else-may_load
returns-else-may_load c = λ tile. loads_not c.args.survey.now c.args.number (sym (c.may_load.ensures tile) ∙ c.if-may_load.false)
