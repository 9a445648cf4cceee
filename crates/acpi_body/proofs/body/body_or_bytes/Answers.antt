use Rattle.std.proofs.Common.{rules}
use Rattle.std.specs.FinMap.{get, empty}
use Rattle.acpi_tree.specs.TermView.{terms_view}
use Rattle.acpi_body.specs.Arguments.{namespace_of, body_grammar}
use Rattle.acpi_body.specs.steps.Setting.{count_in}
use Rattle.acpi_values.specs.steps.Cursor.{Gives}
use Rattle.acpi_body.specs.steps.Reading.{body_at}
use Rattle.acpi_body.proofs.body.body_or_bytes.Goals as goal

pub returns-in-Ok : goal.returns-in-Ok
unfolding count_in
returns-in-Ok g c =
    let s = c.args.method.now in
    let grammar = body_grammar (namespace_of (g.S.Space.contents c.args.space.now)) (get c.args.counts.now) s in
    let read : Gives (λ v. terms_view v.items) c.body.result (body_at grammar s c.args.depth empty c.args.bytes.now) = rw c.new.ensures at c.body.ensures in
    search rules

pub returns-in_ok-from_slice-in-Err-Fault : goal.returns-in_ok-from_slice-in-Err-Fault
unfolding count_in
returns-in_ok-from_slice-in-Err-Fault g c =
    let s = c.args.method.now in
    let grammar = body_grammar (namespace_of (g.S.Space.contents c.args.space.now)) (get c.args.counts.now) s in
    let read : Gives (λ v. terms_view v.items) c.body.result (body_at grammar s c.args.depth empty c.args.bytes.now) = rw c.new.ensures at c.body.ensures in
    search rules
