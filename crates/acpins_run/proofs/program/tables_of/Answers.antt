use Rattle.std.proofs.Common.{◌∙◌, ◌<◌, length, arith}
use Rattle.std.proofs.lemmas.Result.{err_from_is_err_and}
use Rattle.acpins_run.proofs.Cutting.{next_tables, next_fault}
use Rattle.acpins_run.proofs.program.tables_of.Goals as goal

pub returns-in_err-add_tables-clause-err : goal.returns-in_err-add_tables-clause-err
returns-in_err-add_tables-clause-err g c =
    let p = err_from_is_err_and c.from_residual.result c.from_residual.ensures.1 in
    let names = c.args.request.now.files.items in
    let below : c.loop-name.name-index < length names = grind arith in
    rw (p.1, p.2) (next_fault (g.F.Files.bytes_of c.args.files.now) (g.F.Files.bytes_of c.loop-name.files) c.args.request.now.hex _ names c.loop-name.name-index _ c.loop-name.tables.items _ _
    c.loop-name.invariant.stays below c.loop-name.invariant.before c.loop-name.tables.ok.0 (rw c.deref-name-items.ensures.value at c.in_err-add_tables.ensures.err))

pub returns-in_err-add_tables-clause-others : goal.returns-in_err-add_tables-clause-others
returns-in_err-add_tables-clause-others g c = c.in_err-add_tables.ensures.others ∙ c.loop-name.invariant.others

pub returns-clause-others : goal.returns-clause-others
returns-clause-others g c = c.loop-name.invariant.others

pub loop-name-preserved : goal.loop-name-preserved
loop-name-preserved g c =
    let names = c.args.request.now.files.items in
    let below : c.loop-name.name-index < length names = grind arith in
    record {
      stays = c.in_ok-add_tables.ensures.stays ∙ c.loop-name.invariant.stays;
      before = next_tables (g.F.Files.bytes_of c.args.files.now) (g.F.Files.bytes_of c.loop-name.files) c.args.request.now.hex names c.loop-name.name-index _ c.loop-name.tables.items
          c.add_tables.new.tables.items
          c.loop-name.invariant.stays below c.loop-name.invariant.before (rw c.deref-name-items.ensures.value at c.in_ok-add_tables.ensures.ok);
      others = c.in_ok-add_tables.ensures.others ∙ c.loop-name.invariant.others;
    }
