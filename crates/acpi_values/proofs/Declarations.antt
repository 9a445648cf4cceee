-- What the opcodes of declarations open, and what stands behind them.
use Rattle.std.proofs.Common.{◌≡◌, ℕ, ◌<◌, true, List, [], ◌∷◌, ◌++◌, length, Ok, refl, arith}
use Rattle.std.proofs.lemmas.List.{length-append}
use Rattle.acpi_tree.specs.declared.place.NamedForm.{NamedForm}
use Rattle.acpi_tree.specs.declared.place.NamedForm.TheVariants as named
use Rattle.acpi_tree.specs.declared.place.UnitsForm.{UnitsForm}
use Rattle.acpi_tree.specs.declared.place.UnitsForm.TheVariants as units
use Rattle.acpi_tree.specs.Operators.{operands_of_units}
use Rattle.acpi_code.specs.declared.opcode.Opcode.{Opcode}
use Rattle.acpi_code.specs.declared.opcode.Opcode.TheVariants as opcodes
use Rattle.acpi_code.specs.Opcodes.{opcode_bytes}
use Rattle.acpi_code.specs.steps.Reading.{byte_at, opcode_at}
use Rattle.acpi_code.proofs.Opcodes.{opens}
use Rattle.acpi_code.specs.Forms.{named_opcode, units_opcode}
use Rattle.acpi_values.proofs.TermExact.{are_inner}

-- one for each declaration
pub named_spelled : (form : NamedForm) (x : List ℕ) → (end : ℕ) → opcode_at end (opcode_bytes (named_opcode form) ++ x) ≡ Ok (named_opcode form, x)
named_spelled named.Name x end = opens end opcodes.DeclareName x refl
named_spelled (named.Create w) x end = opens end (opcodes.Create w) x refl
named_spelled named.CreateField x end = opens end opcodes.CreateField x refl
named_spelled named.Region x end = opens end opcodes.Region x refl
named_spelled named.Mutex x end = opens end opcodes.Mutex x refl
named_spelled named.Event x end = opens end opcodes.Event x refl

pub units_spelled : (form : UnitsForm) (x : List ℕ) → (end : ℕ) → opcode_at end (opcode_bytes (units_opcode form) ++ x) ≡ Ok (units_opcode form, x)
units_spelled units.Field x end = opens end opcodes.Field x refl
units_spelled units.IndexField x end = opens end opcodes.IndexField x refl
units_spelled units.BankField x end = opens end opcodes.BankField x refl

pub opened_some : (end : ℕ) (bytes : List ℕ) (x : Opcode × List ℕ) → opcode_at end bytes ≡ Ok x → 0 < length bytes
unfolding opcode_at byte_at
opened_some end [] x e = absurd cc
opened_some end (b ∷ bytes) x e = omega arith

pub named_long : (form : NamedForm) → 0 < length (opcode_bytes (named_opcode form))
named_long form = let some = opened_some 0 (opcode_bytes (named_opcode form) ++ []) _ (named_spelled form [] 0) in omega (arith, some, length-append (opcode_bytes (named_opcode form)) [])

pub units_long : (form : UnitsForm) → 0 < length (opcode_bytes (units_opcode form))
units_long form = let some = opened_some 0 (opcode_bytes (units_opcode form) ++ []) _ (units_spelled form [] 0) in omega (arith, some, length-append (opcode_bytes (units_opcode form)) [])

pub units_inner : (form : UnitsForm) → are_inner (operands_of_units form) ≡ true
units_inner units.BankField = refl
units_inner _ = refl
