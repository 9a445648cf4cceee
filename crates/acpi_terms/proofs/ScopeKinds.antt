-- What opens a scope: how each kind is spelled and read, by its opcode and its arguments.
use Rattle.std.proofs.Common.{◌≡◌, ◌≤◌, ◌<◌, ℕ, true, List, ◌++◌, length, Result, refl, arith}
use Rattle.acpi_name.specs.Names.{NameParts}
use Rattle.acpi_tree.specs.declared.tree.ScopeKind.{ScopeKind}
use Rattle.acpi_tree.specs.declared.tree.ScopeKind.TheVariants as kinds
use Rattle.acpi_tree.specs.Tree.{ItemTree, ItemTrees, scope}
use Rattle.acpi_code.specs.Opcodes.{opcode_bytes}
use Rattle.acpi_code.specs.steps.Opcodes.{is_spelled}
use Rattle.acpi_code.specs.Forms.{fixed_arguments, ArgumentsOf, kind_opcode, kind_arguments}
use Rattle.acpi_terms.specs.steps.ScopeBlocks.{opens_items}
use Rattle.acpi_terms.specs.steps.Reading.{Fault, packed_at, item_by}
use Rattle.acpi_terms.proofs.Arguments.{arguments_height}

pub record KindForm (kind : ScopeKind) : Type 0 where
  pub made : ArgumentsOf (kind_opcode kind) → ItemTrees → ItemTree
  pub is : (n : NameParts) (is : ItemTrees) → made (kind_arguments kind n) is ≡ scope kind n is
  pub spelled : is_spelled (kind_opcode kind) ≡ true
  pub long : (a : List ℕ) → 0 < length (opcode_bytes (kind_opcode kind) ++ a)
  pub opens : opens_items (kind_opcode kind) ≡ true
  pub flat : arguments_height (fixed_arguments (kind_opcode kind)) ≤ 0
  pub read : (inner : ℕ → List ℕ → Result ItemTrees Fault) (level end : ℕ) (whole more : List ℕ)
      → item_by inner level end whole (kind_opcode kind) more ≡ packed_at (fixed_arguments (kind_opcode kind)) made level inner end more

pub kind_form : (kind : ScopeKind) → KindForm kind
kind_form kinds.Scope = record { made = λ v is. scope kinds.Scope v.0 is; is = λ n is. refl; spelled = refl; long = λ a. omega arith; opens = refl; flat = omega arith; read = λ inner level end whole more. refl }
kind_form kinds.Device = record { made = λ v is. scope kinds.Device v.0 is; is = λ n is. refl; spelled = refl; long = λ a. omega arith; opens = refl; flat = omega arith; read = λ inner level end whole more. refl }
kind_form (kinds.Processor id block len) = record { made = λ v is. scope (kinds.Processor v.1.0 v.1.1.0 v.1.1.1.0) v.0 is; is = λ n is. refl; spelled = refl; long = λ a. omega arith; opens = refl; flat = omega arith; read = λ inner level end whole more. refl }
kind_form (kinds.Power level order) = record { made = λ v is. scope (kinds.Power v.1.0 v.1.1.0) v.0 is; is = λ n is. refl; spelled = refl; long = λ a. omega arith; opens = refl; flat = omega arith; read = λ inner level end whole more. refl }
kind_form kinds.Thermal = record { made = λ v is. scope kinds.Thermal v.0 is; is = λ n is. refl; spelled = refl; long = λ a. omega arith; opens = refl; flat = omega arith; read = λ inner level end whole more. refl }
