-- All entries, and the one, or the way, from which the paths are seen (ACPI 6.5, 20.2.5.2).
use Rattle.std.specs.Prelude.{false, List, [], ◌∷◌}
use Rattle.acpi_name.specs.Names.{NameParts}
use Rattle.acpi_conditions.specs.Entries.{Path, Turn, Entry}
use Rattle.acpi_conditions.specs.Known.{Known}
use Rattle.acpi_conditions.specs.Survey.{known_inside}
use Rattle.acpi_conditions.specs.Links.{seen_along, seen_from, links}

pub record View : Type 0 where
  pub entries : List Entry
  pub entry : Entry

pub record WayView : Type 0 where
  pub entries : List Entry
  pub way : List Turn

abbrev pub nothing_known : Known
nothing_known = record { entries = []; certain = []; in_loop = false }

abbrev pub seen_by : View → Known
seen_by v = seen_from nothing_known v.entries v.entry

abbrev pub seen_by_way : WayView → Known
seen_by_way v = seen_along nothing_known v.entries v.way

abbrev pub links_by : View → List NameParts → List (List Path)
links_by v names = links nothing_known v.entries v.entry names

-- known are also these entries, and their objects are certain
abbrev pub known_with : Known → List Entry → Known
known_with k [] = k
known_with k (f ∷ fs) = known_with (known_inside k f) fs
