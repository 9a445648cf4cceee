-- What the load of two tables misses and awaits, and their bodies.
use Rattle.std.specs.Prelude.{◌≡◌, ℕ, List, [], ◌∷◌, ◌++◌, map}
use Rattle.std.specs.FinMap.{empty, entries}
use Rattle.acpi_name.specs.Names.{Segment}
use Rattle.acpi_space.specs.Laws.{Among}
use Rattle.acpi_space.specs.Lookups.{nothing}
use Rattle.acpi_declare.specs.Namespace.{Namespace}
use Rattle.acpi_declare.specs.Notes.{Notes}
use Rattle.acpi_body.specs.steps.Gathering.{Paths, Grows}
use Rattle.acpi_machine.specs.MachineView.{bodies_of}
use Rattle.acpi_order.specs.steps.Noted.{noted, all_noted}
use Rattle.acpi_machine.specs.steps.Adding.{AddsBodies}
use Rattle.acpi_singles.specs.SingleView.{awaited_view}
use Rattle.acpi_verdict.specs.declared.misses.Misses.{Misses}
use Rattle.acpi_singles.specs.declared.single_misses.SingleMisses.{SingleMisses}
use Rattle.acpi_verdict.specs.steps.Misses.{all_paths, AddsMethods}

-- what bodies of the table await
abbrev pub tagged : ℕ → List (List Segment × ℕ) → List (ℕ × List Segment × ℕ)
tagged table es = map (λ e. (table, e.0, e.1)) es

-- the bodies of two tables, and what they and the Scope terms of the second miss and await, behind what was missed
-- before
pub record AreSingleMisses (depth : ℕ) (objects : Namespace) (notes : List Notes) (missed : Paths)
    (s : SingleMisses) : Type 0 where
  pub first : Notes
  pub second : Notes
  pub both : notes ≡ first ∷ second ∷ []
  pub scopes : Paths
  pub scopes_are : Grows missed scopes (Among second.missed)
  pub of_first : Misses
  pub of_second : Misses
  pub first_are : AddsMethods all_paths depth objects (noted first)
      (record { missed = scopes; awaited = empty }) of_first
  pub second_are : AddsMethods all_paths depth objects (noted second)
      (record { missed = of_first.missed; awaited = empty }) of_second
  pub bodies_are : AddsBodies depth objects (all_noted notes) nothing (bodies_of s.bodies)
  pub missed_are : s.missed ≡ of_second.missed
  pub awaited_are : map awaited_view s.awaited.items
      ≡ tagged 0 (entries of_first.awaited) ++ tagged 1 (entries of_second.awaited)
