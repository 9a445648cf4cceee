use Rattle.std.proofs.Common.{rules, ◌≡◌, Bool, length, slice_get}
use Rattle.std.proofs.lemmas.Result.{IfOk-weaker}
use Rattle.acpi_locals.specs.BodyNames.{last_path}
use Rattle.acpi_locals.specs.Callables.{numbers_seen}
use Rattle.acpi_locals.specs.LocalViews.{name_view}
use Rattle.acpi_locals.specs.steps.AliasPaths.{entries_in}
use Rattle.acpi_locals.specs.steps.Rounds.{any_marked}
use Rattle.acpi_locals.proofs.MethodMarks.{marked_seen, names_seen}
use Rattle.acpi_locals.proofs.callables.Callables.names_method.Goals as goal

pub returns-clause-methods : goal.returns-clause-methods
returns-clause-methods c are =
    let n = name_view c.args.name.now in
    let es = entries_in c.entries.result in
    IfOk-weaker c.leads_to_marked.result _ _
    (λ (b : Bool) seen.
    let here : b ≡ any_marked c.args.self.now (numbers_seen es (slice_get es n.method) (last_path n.link.paths)) = search rules in
    names_seen c.args.survey.now c.args.self.now n es b are c.if-name.false c.entries.ensures here)
    c.leads_to_marked.ensures

pub returns-clause-marks : goal.returns-clause-marks
returns-clause-marks c =
    let n = name_view c.args.name.now in
    let es = entries_in c.entries.result in
    IfOk-weaker c.leads_to_marked.result _ _
    (λ (b : Bool) seen.
    let here : b ≡ any_marked c.args.self.now (numbers_seen es (slice_get es n.method) (last_path n.link.paths)) = search rules in
    marked_seen c.args.survey.now c.args.self.now n es b c.if-name.false c.entries.ensures here)
    c.leads_to_marked.ensures
