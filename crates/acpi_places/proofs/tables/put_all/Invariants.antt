use Rattle.std.proofs.Common.{◌≡◌, drop, length, map}
use Rattle.std.specs.FinMap.{get}
use Rattle.acpi_space.specs.Lookups.{union}
use Rattle.acpi_declare.specs.Notes.{method_of}
use Rattle.acpi_places.specs.Places.{by_path}
use Rattle.acpi_places.proofs.tables.put_all.Given as goal

-- with those of the methods that are left, they are the places of all
abbrev pub invariant-loop-method : goal.invariant-loop-method
invariant-loop-method l =
    union (get l.places) (by_path (drop (length l.yielded) (map method_of l.methods)) (drop (length l.yielded) l.found))
    ≡ union (get l.fn.places) (by_path (map method_of l.methods) l.found)
