use Rattle.std.proofs.Common.{◌≡◌, ◌++◌, take}
use Rattle.acpi_name.specs.NameRefs.{name_parts}
use Rattle.acpi_name.proofs.path.Path.append.Given as goal

abbrev pub invariant-loop-i : goal.invariant-loop-i
invariant-loop-i l = l.self ≡ l.initial.self ++ take l.i (name_parts l.name).segments
