-- Which object an entry declares, by its number.
use Rattle.std.proofs.Common.{◌≡◌, ◌∙◌, ℕ, Option, Some, None, is_some, unwrap_or, true≢false, ap, sym}
use Rattle.std.specs.Option.{option_and_then, option_map}
use Rattle.acpi_tree.specs.Objects.{predefined_object}
use Rattle.acpi_ranges.specs.Lookup.{Found}
use Rattle.acpi_objects.specs.Declaring.{object_in, object_of, predefined}
use Rattle.acpi_kinds.specs.Objects.{ObjectParts, constant}

-- the object that a part declares, or one of which nothing more is known
pub part_object : (p f : Option Found) (o : Option ObjectParts) (n : ℕ) → Some f ≡ option_map Some p → o ≡ option_and_then object_in f
    → unwrap_or o (constant predefined_object) ≡ object_of p n
part_object None f o n found said = absurd (true≢false (ap is_some found))
part_object (Some part) f o n found said =
    let same : f ≡ Some part = ap (λ x. unwrap_or x None) found in
    ap (λ x. unwrap_or x (constant predefined_object)) (said ∙ ap (option_and_then object_in) same)

-- without a part
pub predefined_object_of : (p : Option Found) (o : ObjectParts) (n : ℕ) → None ≡ option_map Some p → o ≡ predefined n → o ≡ object_of p n
predefined_object_of None o n found said = said
predefined_object_of (Some part) o n found said = absurd (true≢false (sym (ap is_some found)))
