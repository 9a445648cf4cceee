-- Operands that are a Local or an Arg (ACPI 6.5, 20.2.6).
use Rattle.std.specs.Prelude.{ℕ, ◌-◌, Bool, true, false, ◌&&◌, nat_lt, if◌then◌else◌, List, [], ◌∷◌}
use Rattle.acpi_tree.specs.declared.place.Place.{Place}
use Rattle.acpi_tree.specs.declared.place.Place.TheVariants.{Value, SuperName, SimpleName, Source}
use Rattle.acpi_tree.specs.declared.place.OperandKind.{OperandKind}
use Rattle.acpi_tree.specs.declared.place.OperandKind.TheVariants.{At, Target}
use Rattle.acpi_tree.specs.Terms.{TermTree, local, arg, debug}

abbrev pub holds_register : Place → Bool
holds_register Value = true
holds_register SuperName = true
holds_register SimpleName = true
holds_register Source = true
holds_register _ = false

abbrev pub takes_register : OperandKind → Bool
takes_register (At place) = holds_register place
takes_register Target = true
takes_register _ = false

abbrev pub is_register : ℕ → Bool
is_register b = nat_lt 0x5F b && nat_lt b 0x6F

abbrev pub register_at : ℕ → TermTree
register_at b = if nat_lt b 0x68 then local (b - 0x60) else arg (b - 0x68)

-- whether one begins there, for an operand of the kind; `level` levels being left
abbrev pub begins_register : ℕ → OperandKind → List ℕ → Bool
begins_register level kind [] = false
begins_register level kind (b ∷ rest) = nat_lt 0 level && takes_register kind && is_register b

abbrev pub front_register : List ℕ → TermTree
front_register [] = debug
front_register (b ∷ rest) = register_at b
