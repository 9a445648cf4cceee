use Rattle.std.proofs.Common.{rules}
use Rattle.std.specs.Io.KnownBytes.{Appends}
use Rattle.acpins_io.specs.PartsWritten.{AppendsBeginning}
use Rattle.acpins_survey_run.proofs.program.print_output.Goals as goal

pub returns-in-Whole-clause-ok : goal.returns-in-Whole-clause-ok
returns-in-Whole-clause-ok g c =
    let whole : Appends (g.W.StreamWriter.contents c.args.out.now) (g.W.StreamWriter.contents c.write_out.new.stream) c.in_ok-text.field-0.text.items = search rules in
    λ is_whole. (c.in_ok-text.field-0.text.items, c.in_ok-text.ensures.ok, whole)

pub returns-in-Whole-clause-part : goal.returns-in-Whole-clause-part
returns-in-Whole-clause-part g c =
    let begins : AppendsBeginning c.in_ok-text.field-0.text.items (g.W.StreamWriter.contents c.args.out.now) (g.W.StreamWriter.contents c.write_out.new.stream) = search rules in
    (c.in_ok-text.field-0.status, c.in_ok-text.field-0.text.items, c.in_ok-text.ensures.ok, begins)

pub returns-in-Unread-clause-part : goal.returns-in-Unread-clause-part
returns-in-Unread-clause-part g c =
    let begins : AppendsBeginning c.in_ok-text.field-0.text.items (g.W.StreamWriter.contents c.args.out.now) (g.W.StreamWriter.contents c.write_out.new.stream) = search rules in
    (c.in_ok-text.field-0.status, c.in_ok-text.field-0.text.items, c.in_ok-text.ensures.ok, begins)

pub returns-clause-begun : goal.returns-clause-begun
returns-clause-begun g c =
    let begins : AppendsBeginning c.in_ok-text.field-0.text.items (g.W.StreamWriter.contents c.args.out.now) (g.W.StreamWriter.contents c.write_out.new.stream) = search rules in
    λ is_output. (c.in_ok-text.field-0.status, c.in_ok-text.field-0.text.items, c.in_ok-text.ensures.ok, begins)
