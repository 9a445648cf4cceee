use Rattle.std.proofs.Common.{subst, refl}
use Rattle.acpi_table.specs.Tables.{IsRefusedAs}
use Rattle.acpi_table.specs.declared.tables.TableFault.TheVariants.{Cut, BadSum}
use Rattle.acpi_pieces.proofs.Judging.{length_of_cut, sum_of_cut, length_of_bad_sum, sum_of_bad_sum, unread_as}
use Rattle.acpi_pieces.proofs.tables.judge.Goals as goal

pub read-requires-in-Cut-clause-length : goal.read-requires-in-Cut-clause-length
read-requires-in-Cut-clause-length c = length_of_cut _ (subst (IsRefusedAs Cut) c.deref.ensures ((c.in-Err.ensures.refused Cut).0 (cc)))

pub read-requires-in-Cut-clause-sum : goal.read-requires-in-Cut-clause-sum
read-requires-in-Cut-clause-sum c = sum_of_cut _ (subst (IsRefusedAs Cut) c.deref.ensures ((c.in-Err.ensures.refused Cut).0 (cc)))

pub read-requires-in-BadSum-clause-length : goal.read-requires-in-BadSum-clause-length
read-requires-in-BadSum-clause-length c = length_of_bad_sum _ (subst (IsRefusedAs BadSum) c.deref.ensures ((c.in-Err.ensures.refused BadSum).0 (cc)))

pub read-requires-in-BadSum-clause-sum : goal.read-requires-in-BadSum-clause-sum
read-requires-in-BadSum-clause-sum c = sum_of_bad_sum _ (subst (IsRefusedAs BadSum) c.deref.ensures ((c.in-Err.ensures.refused BadSum).0 (cc)))

pub returns-in_default : goal.returns-in_default
returns-in_default c = unread_as c.args.number c.in-Err.fault c.args.bytes.now c.in_default.not-Cut c.in_default.not-BadSum (subst (IsRefusedAs c.in-Err.fault) c.deref.ensures ((c.in-Err.ensures.refused c.in-Err.fault).0 refl))
