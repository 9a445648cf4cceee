-- What is answered is the outline, and no other is.
use Rattle.std.proofs.Common.{◌≡◌, ℕ, List, length, Result, Ok, Err, sym, ◌∙◌}
use Rattle.std.specs.Prelude.{IfOk}
use Rattle.acpi_outline.specs.Nodes.{NodeTrees}
use Rattle.acpi_outline.specs.Rules.{Rules}
use Rattle.acpi_outline.specs.Outline.{IsOutline}
use Rattle.acpi_outline.specs.steps.Reading.{nodes_at}
use Rattle.acpi_outline.proofs.NodesSound.{nodes_are}
use Rattle.acpi_outline.proofs.One.{outline_again}

abbrev reading : {S : Type 0} → Rules S → S → ℕ → List ℕ → NodeTrees
reading r known depth code = nodes_at r depth known (length code) code

pub found_law : {S V E : Type 0} (view : V → NodeTrees) (r : Rules S) (known : S) (depth : ℕ) (code : List ℕ) (result : Result V E) → IfOk result (λ ns. view ns ≡ reading r known depth code)
    → IfOk result (λ ns. IsOutline r known depth (view ns) code)
found_law view r known depth code (Ok ns) h = rw h (nodes_are r depth known (length code) code)
found_law view r known depth code (Err e) h = tt

pub only_law : {S V E : Type 0} (view : V → NodeTrees) (r : Rules S) (known : S) (depth : ℕ) (code : List ℕ) (result : Result V E) → IfOk result (λ ns. view ns ≡ reading r known depth code)
    → (ms : NodeTrees) → IsOutline r known depth ms code → IfOk result (λ ns. ms ≡ view ns)
only_law view r known depth code (Ok ns) h ms k = outline_again r known depth code ms k ∙ sym h
only_law view r known depth code (Err e) h ms k = tt
