use Rattle.std.proofs.Common.{ℕ, List, [], ◌∷◌}
use Rattle.acpi_declare.specs.Declaring.{HasTables, state_of}
use Rattle.acpi_verdict.specs.steps.Declaring.{AreDefiners}
use Rattle.acpi_verdict.specs.steps.Finding.{AreFoundTo}
use Rattle.acpi_verdict.proofs.findings.find_all.Given as goal

-- what is found of the SSDTs so far
abbrev pub invariant-loop-i : goal.invariant-loop-i
invariant-loop-i g l =
    (bytes : List ℕ) → HasTables l.depth (bytes ∷ []) (state_of g.S.Space.contents l.dsdt)
    → AreDefiners l.depth bytes l.ssdts l.definers → AreFoundTo l.depth bytes l.ssdts l.definers l.i l.found
