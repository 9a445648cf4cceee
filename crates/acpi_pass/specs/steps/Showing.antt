-- Links that are shown as shared lists, and shown on as links.
use Rattle.std.specs.Prelude.{◌≡◌, List, Option, ◌++◌, map}
use Rattle.std.specs.Global.{Vec, Global}
use Rattle.std.specs.declared.sync.Arc.{Arc}
use Rattle.acpi_name.specs.Names.{Segment}
use Rattle.acpi_pass.specs.Links.{Links}
use Rattle.acpi_pass.specs.declared.link_map.SharedLinks.{SharedLinks}

-- a list of answers that several paths share
abbrev pub Shared : Type 0
Shared = Arc (Vec (Option (List Segment))) Global

-- The visitor is the same one. It was shown the links of these pairs behind those that it was shown before.
pub record ShowsOn {T : Type 0} (was_shown : T → List (List Segment × Links) → T → Type 0)
    (first : SharedLinks T) (pairs : List (List Segment × Shared))
    (now : SharedLinks T) : Type 0 where
  pub same : now.visitor.ghost_name ≡ first.visitor.ghost_name
  pub shown : (start : T) (before : List (List Segment × Links))
      → was_shown start before first.visitor.now
      → was_shown start (before ++ map (λ e. (e.0, e.1.value.items)) pairs) now.visitor.now
