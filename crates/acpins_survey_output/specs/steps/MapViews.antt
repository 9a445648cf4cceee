-- What the code knows of a table, by place.
use Rattle.acpi_ranges.specs.steps.Indexes.{index_entered, index_refusals}
use Rattle.acpins_survey_output.specs.declared.ranges.TablePlaces.{TablePlaces}
use Rattle.acpins_survey_output.specs.Maps.{TableParts, table_parts}

abbrev pub places_view : TablePlaces → TableParts
places_view t = table_parts (index_entered t.index.now) (index_refusals t.index.now) t.number
