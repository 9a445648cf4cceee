use Rattle.acpins_records.specs.Written.{bytes_of, contents_of}
use Rattle.acpins_records.proofs.OrderedRecords.{written_in_any_order}
use Rattle.acpins_records.proofs.loading.write_load.Goals as goal

pub returns-clause-any_order : goal.returns-clause-any_order
returns-clause-any_order c ok =
    written_in_any_order c.args.depth (bytes_of c.args.tables.now) (contents_of c.args.arrays.now) (contents_of c.load_into.new.arrays) c.load_into.new.outcome (c.load_into.ensures.ok ok)
