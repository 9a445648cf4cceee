use Rattle.std.proofs.Common.{◌≡◌, ◌++◌}
use Rattle.std.specs.Vec.Iter.{into_iter_items}
use Rattle.acpi_verdict.proofs.satisfied_externals.put_behind.Given as goal

-- with those that are left, all of them are behind the list
abbrev pub invariant-loop-one : goal.invariant-loop-one
invariant-loop-one l = l.list.items ++ into_iter_items l.one-iterator ≡ l.initial.list.items ++ into_iter_items l.initial.one-iterator
