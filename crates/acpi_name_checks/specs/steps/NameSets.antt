-- What sets of names hold.
use Rattle.std.specs.Prelude.{◌≡◌, Bool, List}
use Rattle.std.specs.List.{list_any}
use Rattle.std.specs.BTreeSet.{contains}
use Rattle.acpi_name.specs.Names.{NameParts}
use Rattle.acpi_name.specs.NameEqual.{name_eq}
use Rattle.acpi_name_checks.specs.declared.name_set.NameSet.{NameSet}
use Rattle.acpi_name_checks.specs.steps.NameOrder.{name_cmp}

abbrev pub has_name : NameSet → NameParts → Bool
has_name s n = contains name_cmp s.keys n

-- the names of these, and no others
abbrev pub HasNamesOf : {X : Type 0} → (name : X → NameParts) → NameSet → List X → Type 0
HasNamesOf name s xs = (n : NameParts) → has_name s n ≡ list_any (λ x. name_eq (name x) n) xs
