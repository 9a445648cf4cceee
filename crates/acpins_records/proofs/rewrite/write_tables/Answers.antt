use Rattle.std.proofs.Common.{rules, subst, ◌∙◌}
use Rattle.acpi_rewrite.specs.Rewriting.{AreTablesOfBytes}
use Rattle.acpins_records.specs.Written.{bytes_of}
use Rattle.acpins_records.proofs.AnyOrder.{tables_in_any_order}
use Rattle.acpins_records.proofs.rewrite.write_tables.Goals as goal

pub returns-in-Ok-join-clause-any_order : goal.returns-in-Ok-join-clause-any_order
returns-in-Ok-join-clause-any_order c ok =
    tables_in_any_order c.args.depth (bytes_of c.args.tables.now) c.args.bytes.now c.write_joined.new.bytes c.args.ends.now c.write_joined.new.ends c.write_joined.new.outcome
    (subst AreTablesOfBytes (c.deref.ensures.value ∙ c.in-Ok.ensures) c.in-Ok-rewrite.ensures.bytes)
    (search rules)
