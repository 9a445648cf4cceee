-- How the elements of a field list are read, one after another.
use Rattle.std.specs.Prelude.{◌≡◌, ◌≤◌, ℕ, List, length, Result, Ok, Err}
use Rattle.acpi_tree.specs.declared.tree.FieldElem.{FieldElem}
use Rattle.acpi_tree.specs.View.{field_view}
use Rattle.acpi_code.specs.declared.fault.ConstantFault.{ConstantFault}
use Rattle.acpi_code.specs.steps.Fields.{field_at}
use Rattle.acpi_code.specs.steps.Remaining.{Remaining, Advances}
use Rattle.acpi_outline.specs.declared.fault.LostFault.{LostFault}
use Rattle.acpi_outline.specs.Nodes.{FixedTree, no_more_fields}
use Rattle.acpi_outline.specs.View.{PlacedElement, fields_before}
use Rattle.acpi_outline.specs.Rules.{Rules, after_fields}
use Rattle.acpi_outline.specs.Faults.{element_fault}
use Rattle.acpi_outline.specs.steps.Reading.{fields_with, fields_at}

-- the next element was read, or none is, for that reason
abbrev pub ReadsField : Remaining → Remaining → Result FieldElem LostFault → Type 0
ReadsField old new (Ok e) =
    (field_at old.end old.bytes ≡ Ok (field_view e, new.bytes)) × Advances old new
ReadsField old new (Err why) =
    (f : ConstantFault) × (field_at old.end old.bytes ≡ Err f) × (why ≡ element_fault f)

-- these elements were read of what was left at first, what is left now follows them, and so many bits stand before it
pub record FieldsFollow {S : Type 0} (r : Rules S) (f : FixedTree) (known : S) (first : Remaining)
    (then : S) (now : Remaining) (offset : ℕ) (front : List PlacedElement) : Type 0 where
  pub same_end : now.end ≡ first.end
  pub turns : ℕ
  pub enough : length now.bytes ≤ turns
  pub whole : fields_before front (fields_with turns now.end offset now.bytes)
      ≡ fields_at first.end first.bytes
  pub state : after_fields r known f (fields_before front no_more_fields) ≡ then
