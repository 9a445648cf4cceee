-- Descriptors that are read, and the bytes that are left.
use Rattle.std.specs.Prelude.{◌≡◌, ℕ, Bool, true, false, List, ◌++◌}
use Rattle.std.specs.List.{All}
use Rattle.acpi_resources.specs.Items.{IsCut}
use Rattle.acpi_resources.specs.Descriptors.{template_bytes, IsProper}
use Rattle.acpi_resources.specs.Templates.{HasEndTag, HasNoEndTag}
use Rattle.acpi_resources.specs.declared.descriptor.Descriptor.{Descriptor}

-- whether an end tag was read, and what is left if none was
abbrev pub IsRead : Bool → List Descriptor → List ℕ → Type 0
IsRead true ds left = HasEndTag ds
IsRead false ds left = HasNoEndTag ds × IsCut left

-- the bytes are the descriptors' and those that are left
pub record Splits (ds : List Descriptor) (left bytes : List ℕ) : Type 0 where
  pub spelled : bytes ≡ template_bytes ds ++ left
  pub proper : All IsProper ds
