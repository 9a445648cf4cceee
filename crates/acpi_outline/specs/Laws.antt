-- Laws of outlines, of the definitions alone, whatever a state is.
use Rattle.std.specs.Prelude.{◌≡◌, ℕ, List, length}
use Rattle.acpi_outline.specs.Nodes.{NodeTrees}
use Rattle.acpi_outline.specs.Rules.{Rules}
use Rattle.acpi_outline.specs.Outline.{IsOutline}
use Rattle.acpi_outline.specs.Tiling.{Tiles}

-- Bytes have an outline.
abbrev pub HasOutline : {S : Type 0} → Rules S → Type 0
HasOutline {S} r =
    (known : S) (depth : ℕ) (code : List ℕ) → (ns : NodeTrees) × IsOutline r known depth ns code

-- They have one alone.
abbrev pub AtMostOneOutline : {S : Type 0} → Rules S → Type 0
AtMostOneOutline {S} r = (known : S) (depth : ℕ) (code : List ℕ) (ns ms : NodeTrees)
    → IsOutline r known depth ns code → IsOutline r known depth ms code → ns ≡ ms

-- The nodes of an outline tile the code.
abbrev pub NodesTile : {S : Type 0} → Rules S → Type 0
NodesTile {S} r = (known : S) (depth : ℕ) (code : List ℕ) (ns : NodeTrees)
    → IsOutline r known depth ns code → Tiles 0 (length code) ns
