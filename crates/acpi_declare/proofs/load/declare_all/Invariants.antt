use Rattle.std.proofs.Common.{◌∷◌, take}
use Rattle.acpi_declare.specs.Declaring.{state_of}
use Rattle.acpi_declare.specs.steps.Adding.{HasKept}
use Rattle.acpi_declare.proofs.load.declare_all.Given as goal

abbrev pub invariant-loop-i : goal.invariant-loop-i
invariant-loop-i g l = HasKept l.keep l.depth (l.dsdt ∷ take l.i l.ssdts) (state_of g.S.Space.contents l.loaded)
