-- Laws on what begins with which bytes.
use Rattle.std.specs.Prelude.{◌≡◌, ◌≢◌, ℕ, List, [], ◌∷◌}
use Rattle.acpi_code.specs.declared.opcode.Opcode.{Opcode}
use Rattle.acpi_code.specs.Opcodes.{BeginsWith}

-- bytes begin with one opcode, or with nothing that is known, if there are some and they are no lone 5B
abbrev pub OneOpcodeBegins : Type 0
OneOpcodeBegins = (bytes : List ℕ) → bytes ≢ [] → bytes ≢ 0x5B ∷ []
    → (o : Opcode) × BeginsWith o bytes × ((p : Opcode) → BeginsWith p bytes → p ≡ o)
