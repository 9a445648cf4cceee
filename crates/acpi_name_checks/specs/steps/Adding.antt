-- Names that are listed once.
use Rattle.std.specs.Prelude.{cond, List, [], ◌∷◌, ◌++◌, Bool}
use Rattle.std.specs.List.{list_any}
use Rattle.acpi_name.specs.Names.{NameParts}
use Rattle.acpi_name.specs.NameEqual.{name_eq}
use Rattle.acpi_name_checks.specs.NoNames.{NoNameParts, has_same_name}

abbrev pub name_of : NoNameParts → NameParts
name_of x = x.name

-- one more, unless one of them is the same
abbrev pub with_first : {X : Type 0} → (same : X → X → Bool) → List X → X → List X
with_first same xs x = cond (list_any (λ y. same y x) xs) xs (xs ++ x ∷ [])

abbrev pub with_name_if : Bool → List NoNameParts → NoNameParts → List NoNameParts
with_name_if lost xs x = cond lost (with_first has_same_name xs x) xs

-- .. of names alone
abbrev pub with_element_if : Bool → List NameParts → NameParts → List NameParts
with_element_if lost ns n = cond lost (with_first name_eq ns n) ns
