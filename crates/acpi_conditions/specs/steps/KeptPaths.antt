-- How the code keeps what is known of the paths (ACPI 6.5, 5.3).
use Rattle.std.specs.Prelude.{◌≡◌, [], Some, map, slice_get}
use Rattle.acpi_conditions.specs.Entries.{Path}
use Rattle.acpi_conditions.specs.EntryForms.{entry_view}
use Rattle.acpi_conditions.specs.KnownLists.{KnownLists}
use Rattle.acpi_conditions.specs.declared.known_paths.KnownPaths.TheInside.{Inside}
use Rattle.acpi_conditions.specs.steps.Facts.{sights_beyond, kept_in, paths_in, certain_by, IsCertainBy}

abbrev pub lists_of : Inside → KnownLists
lists_of k =
    record {
      entries = k.entries.items;
      certain = certain_by k.slots k.facts.items;
      hidden = k.hidden.items;
      in_loop = k.in_loop;
    }

-- the slots agree with the entries, whatever their ways are, and the facts, and each entry has the number of its path's
-- slot
pub record IsKept (k : Inside) : Type 0 where
  pub certain : IsCertainBy k.slots k.facts.items
  pub sights : (p : Path)
      → (kept_in k.slots p).sights ≡ sights_beyond p 0 (map (entry_view []) k.entries.items)
  pub numbers : map (slice_get (paths_in k.slots)) k.entry_slots.items
      ≡ map (λ e. Some e.path) k.entries.items
