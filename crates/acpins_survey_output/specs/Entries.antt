-- The lines of entries (ACPI 6.5, 5.3).
use Rattle.std.specs.Prelude.{ℕ, List, [], ◌∷◌, ◌++◌, codes}
use Rattle.acpi_name.specs.Names.{Segment}
use Rattle.acpi_name.specs.Text.{path_text}
use Rattle.acpi_entries.specs.EntryLinks.{LinkParts}
use Rattle.acpi_entries.specs.Condition.{PlacedParts}
use Rattle.acpins_survey_output.specs.Conditions.{condition_text}
use Rattle.acpins_survey_output.specs.Links.{sourced_text}
use Rattle.acpi_objects.specs.Objects.{ObjectParts}
use Rattle.acpins_survey_output.specs.Objects.{parts_text, source_of}

-- the path, what the entry declares, the links, and the condition where there is one
abbrev pub entry_line : List Segment → ObjectParts → List LinkParts → List PlacedParts → List ℕ
entry_line path object links condition =
    path_text path ++ codes " " ++ parts_text object ++ sourced_text (source_of object) links
    ++ condition_text condition ++ 10 ∷ []
