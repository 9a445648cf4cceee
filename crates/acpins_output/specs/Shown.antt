-- What `show` prints of a path (docs/COMMAND.md).
use Rattle.std.specs.Prelude.{◌≡◌, ℕ, List, [], ◌∷◌, ◌++◌, Option, Some, None, codes, decimal, unwrap_or}
use Rattle.acpi_name.specs.Names.{Segment}
use Rattle.acpi_tree.specs.Objects.{ObjectTree}
use Rattle.acpi_text.specs.Lines.{line_text}
use Rattle.acpi_text.specs.Terms.{statements_text, opaque_text}
use Rattle.acpi_body.specs.Texts.{body_reason_text}
use Rattle.acpi_values.specs.declared.fault.BodyFault.{BodyFault}
use Rattle.acpi_body.specs.Bodies.{BodyTree, read, unread}
use Rattle.acpi_order.specs.Machines.{Machine, IsMachine}
use Rattle.acpi_machine.specs.Explaining.{IsExplained}

-- the line that says why a body isn't read: the place in the body, and the reason
abbrev pub reason_text : Option BodyFault → List ℕ
reason_text None = []
reason_text (Some f) =
    codes "At " ++ decimal f.place ++ codes ": " ++ body_reason_text f.reason ++ 10 ∷ []

-- the body of a method: its statements, or its bytes and why they are not read; nothing where no method was declared
abbrev pub IsBodyText : ℕ → List (List ℕ) → List Segment → Option BodyTree → List ℕ → Type 0
IsBodyText depth tables path None text = text ≡ []
IsBodyText depth tables path (Some (read ts)) text = text ≡ statements_text [] ts
IsBodyText depth tables path (Some (unread bytes)) text = (w : Option BodyFault)
    × IsExplained depth tables path w × (text ≡ opaque_text bytes ++ reason_text w)

-- the text is the line of the object at the path, and the body of the method there
pub record Shows (depth : ℕ) (tables : List (List ℕ)) (m : Machine) (path : List Segment)
    (text : List ℕ) : Type 0 where
  pub object : ObjectTree
  pub there : m.objects path ≡ Some object
  pub body : List ℕ
  pub is_body : IsBodyText depth tables path (m.bodies path) body
  pub text_is : text ≡ line_text path object (unwrap_or (m.links path) []) ++ body

-- .. or there is no text, where the namespace has no object at the path
abbrev pub ShowsOrNone : ℕ → List (List ℕ) → Machine → List Segment → Option (List ℕ) → Type 0
ShowsOrNone depth tables m path (Some text) = Shows depth tables m path text
ShowsOrNone depth tables m path None = m.objects path ≡ None

-- .. of the machine to which the tables load
abbrev pub ShowsLoaded : ℕ → List (List ℕ) → List Segment → Option (List ℕ) → Type 0
ShowsLoaded depth tables path text =
    (m : Machine) × IsMachine depth tables m × ShowsOrNone depth tables m path text
