-- How the code keeps a walk over nodes (ACPI 6.5, 5.3).
use Rattle.std.specs.Prelude.{ℕ, ◌<◌, ◌≤◌, List, [], ◌∷◌, ◌++◌, Option, map, reverse, length, take, ⊤, option_to_list}
use Rattle.std.specs.List.{AllByRecursion}
use Rattle.std.specs.Option.{option_map}
use Rattle.acpi_conditions.specs.Entries.{Turn}
use Rattle.acpi_conditions.specs.Turns.{way_of}
use Rattle.acpi_conditions.specs.EntryForms.{entry_view, refusal_of}
use Rattle.acpi_conditions.specs.KnownLists.{KnownLists, known_by, lists_at}
use Rattle.acpi_conditions.specs.Walk.{Package, Walk}
use Rattle.acpi_conditions.specs.steps.Packages.{kind_of}
use Rattle.acpi_conditions.specs.steps.Stops.{stop_at_of, IsWayOf}
use Rattle.acpi_conditions.specs.declared.facts.Mark.{Mark}
use Rattle.acpi_conditions.specs.declared.facts.HiddenRange.{HiddenRange}
use Rattle.acpi_conditions.specs.declared.packages.Package.{Package as PackageForm}
use Rattle.acpi_conditions.specs.declared.walk.Walk.TheInside.{Inside}

-- ---- what it is

-- a package, by the ways and by what the lists were before it
abbrev pub package_of : List (List Turn) → KnownLists → PackageForm → Package
package_of ways k p = record {
  kind = kind_of p.kind;
  place = p.place;
  around = record { scope = p.scope; way = way_of ways p.way };
  known = known_by ways (lists_at p.mark k);
  entries = p.mark.entries;
  stops = p.stops;
}

abbrev pub walk_of : Inside → Walk
walk_of w = record {
  around = record { scope = w.scope; way = way_of w.ways w.way };
  known = known_by w.ways w.paths;
  entries = map (entry_view w.ways) w.paths.entries;
  refused = map refusal_of w.refused.items;
  stops = map stop_at_of w.stops.items;
  packages = map (package_of w.ways w.paths) (reverse w.packages.items);
  last_if = option_map (package_of w.ways w.paths) w.last_if;
  start = record { known = known_by w.ways (lists_at w.start w.paths); entries = w.start.entries };
}

-- ---- what always holds

-- the ranges end there or before
abbrev pub AreBefore : ℕ → List HiddenRange → Type 0
AreBefore n = AllByRecursion (λ r. r.to ≤ n)

-- a moment of these lists
pub record IsMarkOf (k : KnownLists) (m : Mark) : Type 0 where
  pub entries : m.entries ≤ length k.entries
  pub certain : m.certain ≤ length k.certain
  pub hidden : m.hidden ≤ length k.hidden
  pub ranges : AreBefore m.entries (take m.hidden k.hidden)

-- moments, the newest first
abbrev pub AreMarksOf : KnownLists → List Mark → Type 0
AreMarksOf k [] = ⊤
AreMarksOf k (m ∷ ms) = IsMarkOf k m × AreMarksOf (lists_at m k) ms

-- the package of the If directly before, and those around, the innermost first
abbrev pub open_packages : Option PackageForm → List PackageForm → List PackageForm
open_packages last packages = option_to_list last ++ reverse packages

abbrev pub marks_of : List PackageForm → Mark → List Mark
marks_of ps start = map (λ p. p.mark) ps ++ start ∷ []

pub record IsWalk (w : Inside) : Type 0 where
  pub ways : 0 < length w.ways
  pub way : IsWayOf w.ways w.way
  pub entries : AllByRecursion (λ e. IsWayOf w.ways e.way) w.paths.entries
  pub packages : AllByRecursion (λ p. IsWayOf w.ways p.way)
      (open_packages w.last_if w.packages.items)
  pub marks : AreMarksOf w.paths (marks_of (open_packages w.last_if w.packages.items) w.start)
  pub ranges : AreBefore (length w.paths.entries) w.paths.hidden
