-- What a search answers.
use Rattle.std.specs.Prelude.{List, Option, None, Some}
use Rattle.acpi_name.specs.Names.{Segment}
use Rattle.acpi_name.specs.declared.places.PlaceFault.{PlaceFault}
use Rattle.acpi_name.specs.declared.places.PlaceFault.TheVariants as place_faults
use Rattle.acpi_space.specs.declared.lookup.Found.{Found}
use Rattle.acpi_space.specs.declared.lookup.Found.TheVariants.{At, Missing}
use Rattle.acpi_space.specs.declared.lookup.SearchFault.{SearchFault}
use Rattle.acpi_space.specs.declared.lookup.SearchFault.TheVariants as search_faults

-- the path that was found, if any was
abbrev pub found_path : Found → Option (List Segment)
found_path (At p) = Some p
found_path Missing = None

-- a name that has no place has no answer for the same reason
abbrev pub search_fault : PlaceFault → SearchFault
search_fault place_faults.AboveRoot = search_faults.AboveRoot
search_fault place_faults.Memory = search_faults.Memory
