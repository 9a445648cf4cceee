-- How the code keeps a meeting (ACPI 6.5, 5.3 and 20.2.5).
use Rattle.std.specs.Prelude.{map}
use Rattle.acpi_conditions.specs.Turns.{turn_of}
use Rattle.acpi_conditions.specs.EntryForms.{entry_view}
use Rattle.acpi_conditions.specs.Met.{Meeting}
use Rattle.acpi_conditions.specs.declared.met.Met.TheInside.{Inside}

abbrev pub meeting_of : Inside → Meeting
meeting_of m =
    record {
      entries = map (entry_view m.ways.now) m.paths.now.entries;
      certain = m.paths.now.certain;
      way = map turn_of m.turns.items;
    }
