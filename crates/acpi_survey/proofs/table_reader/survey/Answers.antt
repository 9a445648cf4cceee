use Rattle.std.proofs.Common.{◌≡◌, ◌∙◌, ℕ, ◌+◌, List, ◌∷◌, drop, refl, sym, ap, arith}
use Rattle.std.proofs.lemmas.List.{drop_more}
use Rattle.acpi_survey.proofs.Surveys.{kept_next, all_bytes, all_kept, all_read, all_only, all_surveyed}
use Rattle.acpi_survey.proofs.KeptOrder.{survey_in_order}
use Rattle.acpi_survey.proofs.table_reader.survey.Goals as goal

pub each-preserved : goal.each-preserved
each-preserved c =
    let l = c.each in
    let all = c.args.tables.now in
    let here : drop l.bytes-index all ≡ c.bytes-item.result ∷ drop (l.bytes-index + 1) all =
    drop_more all l.bytes-index c.bytes-item.result (grind arith) ∙ ap (λ (b : List ℕ). b ∷ drop (l.bytes-index + 1) all) (sym c.bytes-item.is) in
    kept_next c.args.depth c.len-number.result l.bytes-index l.read.items c.push.new.self.items l.reading c.read_table.new.reading c.in_ok-read_table.field-0 c.bytes-item.result all l.invariant
    (grind arith) here c.in_ok-read_table.ensures.bytes c.in_ok-read_table.ensures.table c.in_ok-read_table.ensures.behind c.in_ok-push.ensures.items

pub returns-clause-is : goal.returns-clause-is
returns-clause-is c = record {
  kept = all_bytes c.args.depth c.each.bytes-index c.each.read.items c.each.reading c.args.tables.now (grind arith) c.each.invariant;
  limit = refl;
  read = all_kept c.args.depth c.each.bytes-index c.each.read.items c.each.reading c.args.tables.now (grind arith) c.each.invariant;
}

pub returns-clause-read : goal.returns-clause-read
returns-clause-read c = all_read c.args.depth c.each.bytes-index c.each.read.items c.each.reading c.args.tables.now (grind arith) c.each.invariant

pub returns-clause-entries : goal.returns-clause-entries
returns-clause-entries c = all_surveyed c.args.depth c.each.bytes-index c.each.read.items c.each.reading c.args.tables.now (grind arith) c.each.invariant

pub returns-clause-only : goal.returns-clause-only
returns-clause-only c = all_only c.args.depth c.each.bytes-index c.each.read.items c.each.reading c.args.tables.now (grind arith) c.each.invariant

pub returns-clause-in_order : goal.returns-clause-in_order
returns-clause-in_order c = survey_in_order c.args.depth _ (all_kept c.args.depth c.each.bytes-index c.each.read.items c.each.reading c.args.tables.now (grind arith) c.each.invariant)
