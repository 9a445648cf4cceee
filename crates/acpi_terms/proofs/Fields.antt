-- Field elements among items: what is spelled is read, and where it fails the reading stops.
use Rattle.std.proofs.Common.{◌≡◌, ℕ, List, ◌++◌, Ok, refl}
use Rattle.acpi_tree.specs.Tree.{FieldTree}
use Rattle.acpi_code.specs.Fields.{SpellsField, SpellsFields}
use Rattle.acpi_code.specs.Faults.{FailsAs, FailsField, FailsFields}
use Rattle.acpi_code.specs.steps.Fields as codes
use Rattle.acpi_code.proofs.Fields as fields
use Rattle.acpi_code.proofs.Exact.{Exact, ExactAll, exact_as, all_as}
use Rattle.acpi_code.proofs.ExactFields as exact
use Rattle.acpi_terms.specs.steps.Reading.{constant_fault, field_at, fields_in}

pub field_complete : (e : FieldTree) (end : ℕ) (a rest : List ℕ) → SpellsField e a → field_at end (a ++ rest) ≡ Ok (e, rest)
field_complete e end a rest h = rw (fields.field_complete end e a rest h) refl

pub fields_complete : (es : List FieldTree) (end : ℕ) (b : List ℕ) → SpellsFields es b → fields_in end b ≡ Ok es
fields_complete es end b h = rw (fields.fields_complete end es b h) refl

pub exact_field : Exact SpellsField (FailsAs constant_fault FailsField) field_at
exact_field = exact_as SpellsField FailsField codes.field_at constant_fault exact.exact_field

pub exact_fields : ExactAll SpellsFields (FailsAs constant_fault FailsFields) fields_in
exact_fields = all_as SpellsFields FailsFields codes.fields_in constant_fault exact.exact_fields
