-- What the code keeps of the reading of tables, by place.
use Rattle.std.specs.Prelude.{ℕ, List, [], Option, Some, None}
use Rattle.std.specs.Global.{Vec}
use Rattle.std.specs.Option.{option_map}
use Rattle.acpi_name.specs.Names.{NameParts}
use Rattle.acpi_conditions.specs.EntryForms.{why_of}
use Rattle.acpi_survey.specs.Survey.{place_in}
use Rattle.acpi_ranges.specs.Index.{Refusals, Unknowns}
use Rattle.acpi_ranges.specs.Ranges.{Entered}
use Rattle.acpi_ranges.specs.steps.ByPlace.{kept_at}
use Rattle.acpi_ranges.specs.declared.index.PlaceIndex.{PlaceIndex}

abbrev pub index_entered : PlaceIndex → (number : ℕ) → Entered
index_entered x number place = kept_at x.paths (place_in number place)

abbrev pub index_refusals : PlaceIndex → Refusals
index_refusals x place = option_map why_of (kept_at x.refused place)

abbrev pub names_or_none : Option (Vec NameParts) → List NameParts
names_or_none None = []
names_or_none (Some v) = v.items

abbrev pub index_unknowns : PlaceIndex → Unknowns
index_unknowns x place = names_or_none (kept_at x.unknown place)
