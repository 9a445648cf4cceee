-- Which bytes of a part of a code are lost, and the name at a fault (ACPI 6.5, 5.3 and 20.2.5).
use Rattle.std.specs.Prelude.{◌≡◌, ◌↔◌, ◌+◌, ◌-◌, ◌/◌, ℕ, List, [], ◌∷◌, length, drop, unwrap_or, Option, Some, None}
use Rattle.std.specs.Option.{option_map}
use Rattle.std.specs.Result.{result_ok}
use Rattle.acpi_name.specs.Names.{NameParts}
use Rattle.acpi_name.specs.Spelling.{BeginsWithName}
use Rattle.acpi_name.specs.Reading.{name_at}
use Rattle.acpi_values.specs.declared.fault.BodyReason.TheVariants.{Unsure}
use Rattle.acpi_outline.specs.declared.fault.LostReason.{LostReason}
use Rattle.acpi_outline.specs.declared.fault.LostReason.TheVariants.{Term}
use Rattle.acpi_outline.specs.declared.form.PackedForm.TheVariants as forms
use Rattle.acpi_outline.specs.Nodes.{package_lost, name_lost}
use Rattle.acpi_ranges.specs.Ranges.{Part, of_node, Range}
use Rattle.acpi_ranges.specs.Sites.{offset_of}
use Rattle.acpi_ranges.specs.declared.lost_ranges.LostRange.{LostRange}

-- from an offset to the end of the bytes
abbrev pub bytes_from : (offset : ℕ) → List ℕ → LostRange
bytes_from offset bytes = record { from = offset; to = length bytes }

abbrev pub bytes_between : (from to : ℕ) → LostRange
bytes_between from to = record { from = offset_of from; to = offset_of to }

-- the name that bytes begin with (20.2.2), and how many of them spell it
abbrev pub name_front : List ℕ → Option (NameParts × ℕ)
name_front bytes =
    option_map (λ x. (x.0, length bytes - length x.1)) (result_ok (name_at bytes))

-- a law of it: it is the name that is spelled at the front, and the number of the bytes that spell it
abbrev pub NameFrontsAreSpelled : Type 0
NameFrontsAreSpelled = (bytes : List ℕ) (n : NameParts) (count : ℕ)
    → (name_front bytes ≡ Some (n, count)) ↔ BeginsWithName n count bytes

-- how many bytes an opcode of one byte and a package length take, whose first byte says in its two highest bits how
-- many follow it (20.2.4)
abbrev pub package_front : List ℕ → ℕ
package_front (opcode ∷ lead ∷ bytes) = 2 + lead / 64
package_front _ = 0

-- how many NameOp and a name take (20.2.5.1)
abbrev pub named_front : List ℕ → ℕ
named_front (opcode ∷ bytes) = unwrap_or (option_map (λ x. x.1 + 1) (name_front bytes)) 0
named_front [] = 0

-- How many bytes of a part, from its first on, aren't lost: those before the package of an If or While, and before the
-- data of a Name.
abbrev pub front_kept : List ℕ → Part → ℕ
front_kept bytes (of_node (package_lost forms.If why)) = package_front bytes
front_kept bytes (of_node (package_lost forms.While why)) = package_front bytes
front_kept bytes (of_node (name_lost n form why)) = named_front bytes
front_kept bytes _ = 0

-- the bytes of a range that are lost
abbrev pub range_lost : List ℕ → Range → LostRange
range_lost code r = bytes_between (r.from + front_kept (drop r.from code) r.part) r.to

-- the name at the fault, if it isn't sure how many values follow it
abbrev pub unsure_name : List ℕ → (place : ℕ) → LostReason → Option NameParts
unsure_name code place (Term Unsure) = option_map (λ x. x.0) (name_front (drop place code))
unsure_name code place _ = None
