-- The index of what the reading of tables gave.
use Rattle.std.specs.Prelude.{◌≡◌, ℕ}
use Rattle.acpi_survey.specs.declared.machine_survey.Survey.{Survey}
use Rattle.acpi_ranges.specs.Index.{entered_in, refusals_in}
use Rattle.acpi_ranges.specs.declared.index.PlaceIndex.{PlaceIndex}
use Rattle.acpi_ranges.specs.steps.Indexes.{index_entered, index_refusals}

-- it has what is entered and refused in the tables
pub record IsIndexOf (s : Survey) (index : PlaceIndex) : Type 0 where
  pub entered : (number place : ℕ) → index_entered index number place ≡ entered_in s.reading number place
  pub refused : (place : ℕ) → index_refusals index place ≡ refusals_in s.reading place
