-- Why a method body has no reading, or that it has one (ACPI 6.5, 20.2.5).
use Rattle.std.specs.Prelude.{◌≡◌, ◌↔◌, ℕ, List, ◌++◌, length, Option, Some, None, IfSome}
use Rattle.std.specs.FinMap as finite
use Rattle.acpi_name.specs.Names.{Segment}
use Rattle.acpi_tree.specs.Terms.{TermTrees}
use Rattle.acpi_values.specs.declared.fault.BodyReason.{BodyReason}
use Rattle.acpi_values.specs.declared.fault.BodyFault.{BodyFault}
use Rattle.acpi_values.specs.declared.fault.BodyError.{BodyError}
use Rattle.acpi_values.specs.declared.fault.BodyError.TheVariants as stops
use Rattle.acpi_values.specs.Arguments.{BodyGrammar}
use Rattle.acpi_body.specs.Statements.{locals_after_all, ReadsBody}
use Rattle.acpi_body.specs.Faults.{ShowsBody, IsNoStatement}

-- What may be told of the body's bytes: nothing exactly where they have a reading; else their fault, which behind
-- statements is that of what can't begin one, at its place.
pub record IsReason (g : BodyGrammar) (s : List Segment) (depth : ℕ) (bytes : List ℕ)
    (w : Option BodyFault) : Type 0 where
  pub read : (w ≡ None) ↔ ((ts : TermTrees) × ReadsBody g s depth bytes ts)
  pub shown : IfSome w (λ f. ShowsBody g s depth bytes f.reason f.place)
  pub next : (u v : List ℕ) (ts : TermTrees) (reason : BodyReason) → bytes ≡ u ++ v
      → ReadsBody g s depth u ts
      → IsNoStatement (g (locals_after_all s finite.empty ts)).loads reason v
      → w ≡ Some (record { reason = reason; place = length u })

-- if a reading stopped by a fault and not for memory, this holds of the fault
abbrev pub IfFault : BodyError → (BodyFault → Type 0) → Type 0
IfFault (stops.Fault f) P = P f
IfFault stops.Memory P = Unit {0}
