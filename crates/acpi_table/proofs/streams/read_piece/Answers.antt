-- What a wrong body leaves open is named here: its refusal then names it, and needs no second search.
use Rattle.std.proofs.Common.{rules, arith, take, ap, Ok}
use Rattle.std.proofs.lemmas.Grind.{common_steps}
use Rattle.acpi_table.proofs.streams.read_piece.Goals as goal

pub returns-in_err-reserve_exact-clause-failures : goal.returns-in_err-reserve_exact-clause-failures
returns-in_err-reserve_exact-clause-failures g c = search rules

pub returns-clause-within : goal.returns-clause-within
returns-clause-within g c = grind (arith, common_steps)

pub returns-clause-taken : goal.returns-clause-taken
returns-clause-taken g c = (take c.in_ok-count.count c.read.new.buf, grind (arith, common_steps), c.in_ok-count.ensures.taken)

pub returns-clause-ended : goal.returns-clause-ended
returns-clause-ended g c none = c.in_ok-count.ensures.ended (ap Ok none) (grind (arith, common_steps))

pub returns-clause-failures : goal.returns-clause-failures
returns-clause-failures g c = search rules
