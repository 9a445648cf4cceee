-- Methods in whose code LoadTable, Load or Unload may be spelled.
use Rattle.std.specs.Prelude.{ℕ, Bool, false, List, Option, Some, None}
use Rattle.acpi_entries.specs.declared.body.MethodBody.{MethodBody}
use Rattle.acpi_body_notes.specs.LoadNotes.{reading_loads}
use Rattle.acpi_body_notes.specs.steps.LoadBytes.{holds_load}

-- of the code of a method, with the place where it begins
abbrev pub code_holds_load : Option (ℕ × List ℕ) → Bool
code_holds_load None = false
code_holds_load (Some code) = holds_load code.1

abbrev pub body_loads : Option MethodBody → Bool
body_loads None = false
body_loads (Some b) = reading_loads b.reading
