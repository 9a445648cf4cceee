-- The names and operands of declarations of field units (ACPI 6.5, 20.2.5.2).
use Rattle.std.specs.Prelude.{◌≡◌, ℕ, List, ◌++◌, length}
use Rattle.acpi_name.specs.Names.{NameParts}
use Rattle.acpi_name.specs.Spelling.{SpellsName}
use Rattle.acpi_tree.specs.declared.place.UnitsForm.{UnitsForm}
use Rattle.acpi_tree.specs.Operators.{names_of_units, operands_of_units}
use Rattle.acpi_tree.specs.Terms.{TermTrees}
use Rattle.acpi_code.specs.Spelling.{SpellsEach}
use Rattle.acpi_values.specs.Grammars.{Grammar}
use Rattle.acpi_values.specs.Spelling.{AreOperands}

-- its names, and behind them its operands
pub record AreUnitArguments (g : Grammar) (form : UnitsForm) (ns : List NameParts)
    (vs : TermTrees) (bytes : List ℕ) : Type 0 where
  pub names : List ℕ
  pub operands : List ℕ
  pub all_names : length ns ≡ names_of_units form
  pub are_names : SpellsEach SpellsName ns names
  pub are_operands : AreOperands g (operands_of_units form) vs operands
  pub whole : bytes ≡ names ++ operands
