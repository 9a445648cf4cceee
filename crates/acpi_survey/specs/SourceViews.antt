-- Sources of Aliases, and names of which nothing is known, as the code keeps them.
use Rattle.std.specs.Prelude.{ℕ, List}
use Rattle.acpi_name.specs.Names.{NameParts}
use Rattle.acpi_survey.specs.Reading.{AliasSource}
use Rattle.acpi_survey.specs.declared.remarks.AliasSource.{AliasSource as SourceForm}
use Rattle.acpi_survey.specs.declared.remarks.Unknown.{Unknown}

abbrev pub source_of : SourceForm → AliasSource
source_of s =
    record { place = s.place; paths = s.found.paths.items; is_certain = s.found.is_certain }

abbrev pub unknown_of : Unknown → ℕ × List NameParts
unknown_of u = (u.place, u.names.items)
