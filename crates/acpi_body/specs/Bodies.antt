-- A method body: its terms, or its bytes where no terms stand for them.
use Rattle.std.specs.Prelude.{◌≡◌, ℕ, Bool, true, List}
use Rattle.acpi_name.specs.Names.{Segment}
use Rattle.acpi_tree.specs.Terms.{TermTrees}
use Rattle.acpi_tree.specs.TermView.{terms_tree}
use Rattle.acpi_tree.specs.TermFits.{terms_fit}
use Rattle.acpi_values.specs.Arguments.{BodyGrammar}
use Rattle.acpi_body.specs.Statements.{ReadsBody}
use Rattle.acpi_body.specs.declared.body.Body.{Body}
use Rattle.acpi_body.specs.declared.body.Body.TheVariants.{Terms, Opaque}

pub data BodyTree : Type 0 where
  read : TermTrees → BodyTree
  unread : List ℕ → BodyTree

abbrev pub body_view : Body → BodyTree
body_view (Terms v) = read (terms_tree v.items)
body_view (Opaque v) = unread v.items

-- what the bytes are: their one reading, or the bytes themselves where they have none
abbrev pub IsBodyOf : BodyGrammar → List Segment → ℕ → List ℕ → BodyTree → Type 0
IsBodyOf g s depth bytes (read ts) = ReadsBody g s depth bytes ts
IsBodyOf g s depth bytes (unread kept) =
    (kept ≡ bytes) × ((ts : TermTrees) → ¬ ReadsBody g s depth bytes ts)

-- its terms have a spelling, but for the lengths of packages
abbrev pub body_fits : BodyTree → Bool
body_fits (read ts) = terms_fit ts
body_fits (unread kept) = true
