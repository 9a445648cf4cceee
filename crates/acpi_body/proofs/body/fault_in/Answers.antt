-- What a wrong body leaves open is named here: its refusal then names it, and needs no second search.
use Rattle.std.proofs.Common.{rules}
use Rattle.std.specs.FinMap.{get, empty}
use Rattle.acpi_tree.specs.TermView.{terms_view}
use Rattle.acpi_body.specs.Arguments.{namespace_of, body_grammar}
use Rattle.acpi_body.specs.steps.Setting.{count_in}
use Rattle.acpi_values.specs.steps.Cursor.{Gives}
use Rattle.acpi_body.specs.steps.Reading.{body_at}
use Rattle.acpi_body.proofs.body.fault_in.Goals as goal

pub returns : goal.returns
unfolding count_in
returns g c =
    let s = c.args.method.now in
    let args = body_grammar (namespace_of (g.S.Space.contents c.args.space.now)) (get c.args.counts.now) s in
    let told : Gives (λ v. terms_view v.items) c.body.result (body_at args s c.args.depth empty c.args.bytes.now) = rw c.new.ensures at c.body.ensures in
    search rules
