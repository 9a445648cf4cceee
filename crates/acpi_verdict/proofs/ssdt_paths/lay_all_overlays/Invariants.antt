use Rattle.std.proofs.Common.{ℕ, List, [], ◌∷◌}
use Rattle.acpi_declare.specs.Declaring.{HasTables, state_of}
use Rattle.acpi_verdict.specs.steps.Declaring.{AreDeclaredTo}
use Rattle.acpi_verdict.proofs.ssdt_paths.lay_all_overlays.Given as goal

-- what the SSDTs so far declare
abbrev pub invariant-loop-i : goal.invariant-loop-i
invariant-loop-i g l =
    (bytes : List ℕ) → HasTables l.depth (bytes ∷ []) (state_of g.S.Space.contents l.dsdt)
    → AreDeclaredTo l.depth bytes l.ssdts l.i l.declared
