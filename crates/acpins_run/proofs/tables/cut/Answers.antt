use Rattle.std.proofs.Common.{◌∙◌}
use Rattle.acpins_run.proofs.Cutting.{SoFar-more, breaks_off}
use Rattle.acpins_run.proofs.tables.cut.Goals as goal

pub returns-in-Err-Table-clause-err : goal.returns-in-Err-Table-clause-err
returns-in-Err-Table-clause-err g c error some =
    breaks_off c.args.name.now (g.S.Source.coming c.args.source.now) (g.S.Source.coming c.loop.source) error c.args.tables.now.items c.loop.tables.items _ _ _
    c.loop.invariant.cut c.args.tables.now.ok.0 (c.len.ensures ∙ c.loop.tables.ok.0) (c.in-Err-Table.ensures.refused _ (cc))

pub loop-preserved : goal.loop-preserved
loop-preserved g c = record {
  cut = SoFar-more (g.S.Source.coming c.args.source.now) (g.S.Source.coming c.loop.source)
      (g.S.Source.coming c.read_table.new.source) c.args.tables.now.items c.loop.tables.items c.add.new.tables.items c.in-Ok-Some.table.items
      c.loop.invariant.cut c.in-Ok.ensures (rw c.in-Ok-Some.field-0-is at c.in-Ok-Some.ensures.table) (rw c.in-Ok-Some.field-0-is at c.in-Ok-Some.ensures.taken);
  kept = c.in-Ok-Some.ensures.failures ∙ c.loop.invariant.kept;
}
