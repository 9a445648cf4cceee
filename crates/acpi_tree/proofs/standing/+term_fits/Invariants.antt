use Rattle.std.proofs.Common.{◌≡◌, drop}
use Rattle.std.specs.List.{list_all}
use Rattle.acpi_tree.proofs.Alike.{paired}
use Rattle.acpi_tree.proofs.TermLists.{stands, is_operand}
use Rattle.acpi_tree.proofs.standing.+term_fits.Given as goal

abbrev pub invariant-all_fit-loop-term : goal.invariant-all_fit-loop-term
invariant-all_fit-loop-term l = list_all (stands l.place) l.terms ≡ list_all (stands l.place) (drop l.term-index l.terms)

abbrev pub invariant-operands_may_be-loop-i : goal.invariant-operands_may_be-loop-i
invariant-operands_may_be-loop-i l = paired is_operand l.kinds l.operands ≡ paired is_operand (drop l.i l.kinds) (drop l.i l.operands)
