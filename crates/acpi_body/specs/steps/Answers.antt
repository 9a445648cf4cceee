-- What is answered of a reading.
use Rattle.std.specs.Prelude.{ℕ, List, Option, Some, None, Result, Ok, Err}
use Rattle.acpi_tree.specs.Terms.{TermTree, terms_of}
use Rattle.acpi_values.specs.declared.fault.BodyFault.{BodyFault}
use Rattle.acpi_body.specs.Bodies.{BodyTree, read, unread}

-- the terms that were read, or the bytes
abbrev pub body_of : List ℕ → Result (List TermTree) BodyFault → BodyTree
body_of bytes (Ok ts) = read (terms_of ts)
body_of bytes (Err f) = unread bytes

-- the fault, if there was one
abbrev pub fault_in : Result (List TermTree) BodyFault → Option BodyFault
fault_in (Ok ts) = None
fault_in (Err f) = Some f
