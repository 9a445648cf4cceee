use Rattle.std.proofs.Common.{◌≡◌, drop}
use Rattle.acpi_body_notes.specs.steps.LoadBytes.{holds_load}
use Rattle.acpi_body_notes.proofs.load_bytes.holds_load.Given as goal

-- none stands at the places so far
abbrev pub invariant-each : goal.invariant-each
invariant-each l = holds_load (drop l.place l.bytes) ≡ holds_load l.bytes
