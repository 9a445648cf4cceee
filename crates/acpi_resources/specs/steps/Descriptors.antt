-- Descriptors of one kind, and the numbers of address ranges.
use Rattle.std.specs.Prelude.{◌≡◌, ℕ, false, List}
use Rattle.acpi_resources.specs.Descriptors.{tag_of, body_of, is_other}
use Rattle.acpi_resources.specs.declared.descriptor.Descriptor.{Descriptor}
use Rattle.acpi_resources.specs.declared.descriptor.AddressWidth.{AddressWidth}
use Rattle.acpi_resources.specs.declared.descriptor.AddressWidth.TheVariants.{Word, DWord, QWord}

-- how many bytes a number of an address range has
abbrev pub number_size : AddressWidth → ℕ
number_size Word = 2
number_size DWord = 4
number_size QWord = 8

-- The descriptor is of a described kind, and spells an item of this tag and body.
pub record Describes (tag : ℕ) (body : List ℕ) (d : Descriptor) : Type 0 where
  pub has_tag : tag_of d ≡ tag
  pub has_body : body_of d ≡ body
  pub has_kind : is_other d ≡ false
