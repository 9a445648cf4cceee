-- Templates: descriptors one after the other, the last an end tag (ACPI 6.5, 6.4).
use Rattle.std.specs.Prelude.{◌≡◌, ◌<◌, ℕ, true, false, List, [], ◌∷◌, ◌++◌, length, take, drop, Option, Some, None}
use Rattle.std.specs.List.{All}
use Rattle.acpi_resources.specs.Items.{IsCut}
use Rattle.acpi_resources.specs.Descriptors.{template_bytes, is_end_tag, IsProper}
use Rattle.acpi_resources.specs.declared.descriptor.Descriptor.{Descriptor}
use Rattle.acpi_resources.specs.declared.template.TemplateStop.{TemplateStop}
use Rattle.acpi_resources.specs.declared.template.TemplateFault.{TemplateFault}
use Rattle.acpi_resources.specs.declared.template.TemplateFault.TheVariants.{NoEndTag, Cut, BehindEndTag}

-- no descriptor is an end tag
abbrev pub HasNoEndTag : List Descriptor → Type 0
HasNoEndTag ds = All (λ d. is_end_tag d ≡ false) ds

-- the last descriptor, and no other, is an end tag (6.4.2.9)
pub record HasEndTag (ds : List Descriptor) : Type 0 where
  pub before : List Descriptor
  pub last : Descriptor
  pub whole : ds ≡ before ++ last ∷ []
  pub ends : is_end_tag last ≡ true
  pub none_before : HasNoEndTag before

-- why no template stands there, where the descriptors are read and these bytes are left
abbrev pub HasFault : TemplateFault → List Descriptor → List ℕ → Type 0
HasFault NoEndTag ds left = HasNoEndTag ds × (left ≡ [])
HasFault Cut ds left = HasNoEndTag ds × (0 < length left) × IsCut left
HasFault BehindEndTag ds left = HasEndTag ds × (0 < length left)

-- how reading ends
abbrev pub EndsAs : Option TemplateStop → List Descriptor → List ℕ → Type 0
EndsAs None ds left = HasEndTag ds × (left ≡ [])
EndsAs (Some s) ds left = HasFault s.fault ds left

-- how many bytes are read
abbrev pub place_of : Option TemplateStop → List ℕ → ℕ
place_of None bytes = length bytes
place_of (Some s) bytes = s.place

-- The bytes up to the place are the descriptors', and what is behind it ends the reading so.
pub record Decodes (ds : List Descriptor) (stop : Option TemplateStop) (bytes : List ℕ) : Type 0 where
  pub spelled : template_bytes ds ++ drop (place_of stop bytes) bytes ≡ bytes
  pub proper : All IsProper ds
  pub ends : EndsAs stop ds (drop (place_of stop bytes) bytes)
