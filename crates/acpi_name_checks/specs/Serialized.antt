-- Methods that declare objects and aren't Serialized (ACPI 6.5, 19.6.83 and 20.2.5.2).
use Rattle.std.specs.Prelude.{ℕ, ◌+◌, ◌/◌, ◌%◌, Bool, true, false, cond, nat_eq, Option, None, position}
use Rattle.std.specs.Option.{option_map}
use Rattle.acpi_tree.specs.declared.place.NamedForm.{NamedForm}
use Rattle.acpi_tree.specs.declared.place.NamedForm.TheVariants as named
use Rattle.acpi_tree.specs.Terms.{TermTree, TermTrees, declare, declare_units}
use Rattle.acpi_uses.specs.Statements.{statements_of}

-- a Create field is a part of a buffer, and no object that calls share
abbrev pub declares_by : NamedForm → Bool
declares_by (named.Create width) = false
declares_by named.CreateField = false
declares_by _ = true

-- a Name, OperationRegion, field form, Mutex or Event
abbrev pub declares : TermTree → Bool
declares (declare form before n behind) = declares_by form
declares (declare_units form ns vs es) = true
declares _ = false

-- MethodFlags, bit 3: SerializeFlag (20.2.5.2)
abbrev pub is_serialized : (flags : ℕ) → Bool
is_serialized flags = nat_eq (flags / 8 % 2) 1

-- the first line of the body that declares an object, if the method isn't Serialized
abbrev pub unserialized_line : (flags : ℕ) → TermTrees → Option ℕ
unserialized_line flags ts = cond (is_serialized flags) None
    (option_map (λ i. i + 1) (position declares (statements_of ts)))
