use Rattle.std.proofs.Common.{◌+◌, ◌∷◌, map}
use Rattle.std.specs.FinMap.{get}
use Rattle.acpi_declare.specs.Loads.{AreNotes}
use Rattle.acpi_declare.specs.Notes.{notes_of}
use Rattle.acpi_places.specs.steps.Adding.{AreFirstPlaces}
use Rattle.acpi_places.proofs.tables.code_places.Given as goal

-- the places of the tables so far
abbrev pub invariant-loop-i : goal.invariant-loop-i
invariant-loop-i l = (h : AreNotes l.depth (l.dsdt ∷ l.ssdts) (map notes_of l.notes)) → AreFirstPlaces (l.dsdt ∷ l.ssdts) h.placements (l.i + 1) (get l.places)
