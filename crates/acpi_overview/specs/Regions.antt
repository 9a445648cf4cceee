-- Operation regions (ACPI 6.5, 19.6.100).
use Rattle.std.specs.Prelude.{◌≡◌, ◌+◌, ◌*◌, ◌^◌, ◌-◌, ℕ, Bool, false, nat_eq, nat_lt, min, Option, Some, None, if◌then◌else◌}
use Rattle.acpi_tree.specs.declared.term.Term.{Term}
use Rattle.acpi_overview.specs.Numbers.{term_number}
use Rattle.acpi_overview.specs.declared.regions.Bound.{Bound}
use Rattle.acpi_overview.specs.declared.regions.Bound.TheVariants as bounds
use Rattle.acpi_overview.specs.declared.regions.Certainty.{Certainty}
use Rattle.acpi_overview.specs.declared.regions.Certainty.TheVariants as marks
use Rattle.acpi_overview.specs.declared.resources.AddressKind.{AddressKind}
use Rattle.acpi_overview.specs.declared.resources.AddressKind.TheVariants as kinds

-- the number of a bound that is known without running code
abbrev pub bound_number : Bound → Option ℕ
bound_number (bounds.Constant n) = Some n
bound_number (bounds.Named n _) = Some n
bound_number (bounds.Read _) = None

-- a bound as its term has it: a constant is told as one, and what is none by its name or by the term
abbrev pub IsBoundOf : Term → Bound → Type 0
IsBoundOf term (bounds.Constant n) = term_number term ≡ Some n
IsBoundOf term (bounds.Named _ name) = term_number term ≡ None
IsBoundOf term (bounds.Read read) = (read.now ≡ term) × (term_number term ≡ None)

-- how far two bounds are known
abbrev pub region_mark : Bound → Bound → Certainty
region_mark (bounds.Read _) _ = marks.Read
region_mark (bounds.Constant _) (bounds.Constant _) = marks.Constant
region_mark (bounds.Constant _) (bounds.Named _ _) = marks.Named
region_mark (bounds.Constant _) (bounds.Read _) = marks.Read
region_mark (bounds.Named _ _) (bounds.Constant _) = marks.Named
region_mark (bounds.Named _ _) (bounds.Named _ _) = marks.Named
region_mark (bounds.Named _ _) (bounds.Read _) = marks.Read

-- the first byte and the first behind the last, which is at most the last number of 64 bits
abbrev pub region_range : Option ℕ → Option ℕ → Option (ℕ × ℕ)
region_range (Some from) (Some count) = Some (from, min (from + count) (2 ^ 64 - 1))
region_range (Some _) None = None
region_range None _ = None

-- the kind of addresses in an address space that devices claim: 0 SystemMemory, 1 SystemIO (table 5.184)
abbrev pub claimed_kind : ℕ → Option AddressKind
claimed_kind space = if nat_eq space 0 then Some kinds.Memory else
    (if nat_eq space 1 then Some kinds.Ports else None)
