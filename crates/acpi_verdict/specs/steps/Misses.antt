-- What the links and bodies of tables miss and await, of the paths that are asked for.
use Rattle.std.specs.Prelude.{◌≡◌, ◌⊎◌, ◌↔◌, ℕ, true, List, [], ◌∷◌, map, IsTrue}
use Rattle.std.specs.FinMap.{empty}
use Rattle.acpi_name.specs.Names.{Segment}
use Rattle.acpi_space.specs.Spaces.{PathMap}
use Rattle.acpi_space.specs.Laws.{Among}
use Rattle.acpi_space.specs.Wanted.{Wants}
use Rattle.acpi_counts.specs.Counts.{with_first}
use Rattle.acpi_declare.specs.Declaring.{State}
use Rattle.acpi_pass.specs.Pending.{IsMissedLink}
use Rattle.acpi_declare.specs.Links.{pending_links}
use Rattle.acpi_declare.specs.Namespace.{Namespace}
use Rattle.acpi_declare.specs.Notes.{Notes}
use Rattle.acpi_body.specs.declared.misses.BodyMisses.{BodyMisses}
use Rattle.acpi_body.specs.declared.misses.OpenMiss.{OpenMiss}
use Rattle.acpi_body.specs.steps.Gathering.{Paths, Grows}
use Rattle.acpi_order.specs.Bodies.{Method, methods_of}
use Rattle.acpi_order.specs.Misses.{Listing, IsBodyMiss, IsAwaiting}
use Rattle.acpi_order.specs.steps.Noted.{all_noted}
use Rattle.acpi_verdict.specs.declared.misses.Misses.{Misses}

-- every path is asked for
abbrev pub all_paths : Wants
all_paths p = true

-- a body of one of the methods misses the path, or awaits a method of so many arguments there
abbrev pub IsMissedByAny : ℕ → Namespace → List Method → List Segment → Type 0
IsMissedByAny depth objects ms p = (m : Method) × Among ms m × IsBodyMiss depth objects m p

abbrev pub IsAwaitedByAny : ℕ → Namespace → List Method → List Segment → ℕ → Type 0
IsAwaitedByAny depth objects ms p n = (m : Method) × Among ms m × IsAwaiting depth objects m p n

-- a link or a body of the table misses the path
abbrev pub IsTableMiss : ℕ → Namespace → Listing → List Segment → Type 0
IsTableMiss depth objects t p =
    IsMissedLink objects (pending_links t) p ⊎ IsMissedByAny depth objects (methods_of t) p

-- a Scope term of one of the tables missed the path
abbrev pub IsMissedScope : List Notes → List Segment → Type 0
IsMissedScope notes p = (n : Notes) × Among notes n × Among n.missed p

-- ---- what is added

abbrev pub open_pair : OpenMiss → List Segment × ℕ
open_pair o = (o.path, o.count)

-- counts with others, where their paths have none
abbrev pub with_opens : PathMap ℕ → List (List Segment × ℕ) → PathMap ℕ
with_opens awaited [] = awaited
with_opens awaited (e ∷ es) = with_opens (with_first awaited e.0 e.1) es

-- what a body misses and awaits
pub record AddsBody (body : BodyMisses) (before now : Misses) : Type 0 where
  pub missed_are : Grows before.missed now.missed (Among body.firm.items)
  pub awaited_are : now.awaited ≡ with_opens before.awaited (map open_pair body.open.items)

-- .. the body of the method
pub record AddsMethod (wanted : Wants) (depth : ℕ) (objects : Namespace) (m : Method)
    (before now : Misses) : Type 0 where
  pub missed_are : Grows before.missed now.missed
      (λ p. IsBodyMiss depth objects m p × IsTrue (wanted p))
  pub opens : List OpenMiss
  pub opens_are : (p : List Segment) (n : ℕ)
      → Among opens (record { path = p; count = n })
      ↔ (IsAwaiting depth objects m p n × IsTrue (wanted p))
  pub awaited_are : now.awaited ≡ with_opens before.awaited (map open_pair opens)

-- .. of each of the methods, in turn
abbrev pub AddsMethods : Wants → ℕ → Namespace → List Method → Misses → Misses → Type 0
AddsMethods wanted depth objects [] before now = now ≡ before
AddsMethods wanted depth objects (m ∷ ms) before now = (mid : Misses)
    × AddsMethod wanted depth objects m before mid × AddsMethods wanted depth objects ms mid now

-- what the links and bodies of tables miss and await over the objects, behind what was missed before
pub record AreMisses (wanted : Wants) (depth : ℕ) (objects : Namespace) (tables : State)
    (before : Paths) (now : Misses) : Type 0 where
  pub linked : Paths
  pub links_are : Grows before linked (λ p. IsMissedLink objects tables.links p × IsTrue (wanted p))
  pub bodies : AddsMethods wanted depth objects (all_noted tables.notes)
      (record { missed = linked; awaited = empty }) now
