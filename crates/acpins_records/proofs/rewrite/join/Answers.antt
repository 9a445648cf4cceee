use Rattle.std.proofs.Common.{[], ◌∷◌, ◌++◌, ap, ◌∙◌}
use Rattle.acpins_lent.proofs.Joins.{joined_next, ends_next}
use Rattle.acpins_records.proofs.rewrite.join.Goals as goal

pub loop-table-preserved : goal.loop-table-preserved
loop-table-preserved c =
    let put = c.in_ok-extend_from_slice.ensures.items ∙ ap (λ l. c.loop-table.bytes.items ++ l) c.deref.ensures.value in
    record {
      bytes = joined_next (λ t. t.items) c.args.tables.now c.loop-table.table-index c.table-item.result c.loop-table.bytes.items _ c.loop-table-test.true c.table-item.is c.loop-table.invariant.bytes put;
      ends = ends_next (λ t. t.items) c.args.tables.now c.loop-table.table-index c.table-item.result c.extend_from_slice.new.self.items c.loop-table.ends.items _ c.loop-table-test.true c.table-item.is
          (put ∙ ap (λ l. l ++ c.table-item.result.items) c.loop-table.invariant.bytes) c.loop-table.invariant.ends
          (c.in_ok-push.ensures.items ∙ ap (λ n. c.loop-table.ends.items ++ n ∷ []) (c.len.ensures ∙ c.extend_from_slice.new.self.ok.0));
    }
