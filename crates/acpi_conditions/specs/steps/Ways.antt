-- Ways as a tree of turns (ACPI 6.5, 19.6 and 20.2.5).
use Rattle.std.specs.Prelude.{ℕ, suc, ◌<◌, List, [], ◌∷◌, ◌++◌, ⊤}
use Rattle.acpi_conditions.specs.Entries.{Turn}
use Rattle.acpi_conditions.specs.Turns.{turn_of, way_of}
use Rattle.acpi_conditions.specs.declared.turns.LastTurn.{LastTurn}

-- the ways, and one behind them for each last turn
abbrev pub with_turns : List (List Turn) → List LastTurn → List (List Turn)
with_turns ways [] = ways
with_turns ways (l ∷ ls) =
    with_turns (ways ++ (way_of ways l.before ++ turn_of l.turn ∷ []) ∷ []) ls

abbrev pub ways_of : List LastTurn → List (List Turn)
ways_of ls = with_turns ([] ∷ []) ls

-- each last turn stands behind a way before it, where so many ways are before them all
abbrev pub AreBehind : ℕ → List LastTurn → Type 0
AreBehind count [] = ⊤
AreBehind count (l ∷ ls) = (l.before.number < count) × AreBehind (suc count) ls
