-- What is left of an item once it is declared itself.
use Rattle.std.specs.Prelude.{◌≡◌, ◌+◌, ◌<◌, ℕ, true, List, Option, None, Some, Result, Ok, MatchResult}
use Rattle.std.specs.Global.{Vec}
use Rattle.acpi_name.specs.Names.{Segment}
use Rattle.acpi_tree.specs.declared.tree.Item.{Item}
use Rattle.acpi_tree.specs.Fits.{items_fit}
use Rattle.acpi_tree.specs.Offsets.{OffsetsFit}
use Rattle.acpi_tree.specs.Tree.{ItemTree, scope, ItemTrees, no_items, item}
use Rattle.acpi_tree.specs.View.{items_tree}
use Rattle.acpi_name.specs.Paths.{parent_of}
use Rattle.acpi_pass.specs.declared.items.Entered.{Entered}
use Rattle.acpi_pass.specs.declared.items.Entered.TheVariants.{Nothing, Below, Elsewhere}
use Rattle.acpi_pass.specs.declared.refusal.PassError.{PassError}
use Rattle.acpi_pass.specs.Placing.{placed_path}
use Rattle.acpi_pass.specs.Sites.{Step}
use Rattle.acpi_pass.specs.steps.Outcomes.{IsPassErrorOf}
use Rattle.acpi_pass.specs.steps.Pass.{◌>>=◌, Pass, Passing, after, pass_items, placement}

-- a measure of what is left: what stands inside an item weighs less than the item, and an item less than its list
abbrev mutual
  pub weight : ItemTree → ℕ
  weight (scope kind n is) = 1 + weights is
  weight _ = 0

  pub weights : ItemTrees → ℕ
  weights no_items = 0
  weights (item i is) = 1 + weight i + weights is

-- a step into a scope: placed at the path that the result has, from which the state follows, or refused
abbrev pub StepsInto : {A : Type 0} → Result A PassError → (A → List Segment) → Pass → List Segment
    → Step → Pass → Type 0
StepsInto result path_of before s x now = MatchResult result
    (λ a. (placed_path x.effect before.objects s x.name ≡ Ok (path_of a))
    × (now ≡ after before (placement s x (path_of a))))
    (λ f. IsPassErrorOf f (placed_path x.effect before.objects s x.name))

-- the whole item's outcome is that of what is left, from there
abbrev pub IsEntered : ItemTree → Passing → Pass → Option (List Segment × Vec Item) → Type 0
IsEntered i whole now None = whole ≡ Ok now
IsEntered i whole now (Some (p, is)) = (whole ≡ pass_items now p (items_tree is.items))
    × OffsetsFit (items_tree is.items) × (items_fit (items_tree is.items) ≡ true)
    × (weights (items_tree is.items) < weight i)

-- .. or its refusal is told
abbrev pub Enters : ItemTree → Result (Option (List Segment × Vec Item)) PassError → Passing → Pass
    → Type 0
Enters i result whole now = MatchResult result (IsEntered i whole now) (λ f. IsPassErrorOf f whole)

-- The outcome of a list's items is that of what is left inside the first, from there, and then that of the others.
abbrev pub IsEnteredNext : Passing → (Pass → Passing) → Pass → List Segment → Entered → Type 0
IsEnteredNext whole others now here Nothing = whole ≡ others now
IsEnteredNext whole others now here (Below is) =
    whole ≡ (pass_items now here (items_tree is.items) >>= others)
IsEnteredNext whole others now here (Elsewhere p is) =
    whole ≡ (pass_items now p (items_tree is.items) >>= others)

-- .. or their refusal is told
abbrev pub EntersNext : Result Entered PassError → Passing → (Pass → Passing) → Pass → List Segment
    → Type 0
EntersNext result whole others now here =
    MatchResult result (IsEnteredNext whole others now here) (λ f. IsPassErrorOf f whole)

-- items that may be declared
abbrev pub AreLeft : ItemTrees → Type 0
AreLeft is = OffsetsFit is × (items_fit is ≡ true)

-- what is left of a list's items, and what is left inside the first
abbrev pub IsLeftBehind : ItemTrees → ItemTrees → Entered → Type 0
IsLeftBehind whole others Nothing = AreLeft others × (weights others < weights whole)
IsLeftBehind whole others (Below is) = AreLeft others × AreLeft (items_tree is.items)
    × (weights others + weights (items_tree is.items) < weights whole)
IsLeftBehind whole others (Elsewhere p is) = AreLeft others × AreLeft (items_tree is.items)
    × (weights others + weights (items_tree is.items) < weights whole)

-- the path of the list's scope leads to that of what is left inside the first, where this is one segment longer
abbrev pub IsScopeOf : List Segment → List Segment → Entered → Type 0
IsScopeOf old new Nothing = new ≡ old
IsScopeOf old new (Below is) = parent_of new ≡ old
IsScopeOf old new (Elsewhere p is) = new ≡ old
