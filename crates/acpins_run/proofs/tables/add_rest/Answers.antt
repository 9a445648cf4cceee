use Rattle.std.proofs.Common.{rules, sym, ◌∙◌}
use Rattle.acpins_run.proofs.Cutting.{file_fault, hex_fault, spelled}
use Rattle.acpins_run.proofs.tables.add_rest.Goals as goal

pub returns-then-not-hex-clause-err : goal.returns-then-not-hex-clause-err
returns-then-not-hex-clause-err g c =
    file_fault c.args.hex c.args.name.now (g.R.Read.remaining c.args.file.now.reader) _ _ _ _ c.cut.result (search rules) c.cut.ensures.err c.cut.ensures.failures

pub returns-clause-err : goal.returns-clause-err
returns-clause-err g c =
    hex_fault c.args.hex c.args.name.now (g.R.Read.remaining c.args.file.now.reader) c.new.result _ _ c.cut-2.result (search rules)
    (spelled _ _ _ c.in_ok-bytes.ensures.ok (sym (c.new.ensures ∙ c.as_slice.ensures.value))) c.cut-2.ensures.err c.cut-2.ensures.failures
