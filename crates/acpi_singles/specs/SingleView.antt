-- What a `Single` holds.
use Rattle.std.specs.Prelude.{ℕ, List, map}
use Rattle.acpi_name.specs.Names.{Segment}
use Rattle.acpi_machine.specs.declared.machine.Machine.{Machine}
use Rattle.acpi_singles.specs.declared.singles.Awaited.{Awaited}
use Rattle.acpi_singles.specs.declared.singles.Single.{Single}

abbrev pub machine_in : {S : Type 0} → Single S → Machine S
machine_in s = s.machine

abbrev pub defined_in : {S : Type 0} → Single S → List (List Segment)
defined_in s = s.defined.items

abbrev pub missed_in : {S : Type 0} → Single S → List (List Segment)
missed_in s = s.missed.items

abbrev pub awaited_in : {S : Type 0} → Single S → List Awaited
awaited_in s = s.awaited.items

-- what is awaited, as table, path and count
abbrev pub awaited_view : Awaited → ℕ × List Segment × ℕ
awaited_view a = (a.table, a.path, a.count)

abbrev pub awaits_in : {S : Type 0} → Single S → List (ℕ × List Segment × ℕ)
awaits_in s = map awaited_view (awaited_in s)
