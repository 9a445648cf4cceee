-- What the bodies of the methods of a survey declare (ACPI 6.5, 5.5.2.3).
use Rattle.std.specs.Prelude.{◌≡◌, ◌+◌, ℕ, List, [], ◌∷◌, ◌++◌, Option, Some, None}
use Rattle.std.specs.List.Sorted.{IsPermutation, IsSortedByKey, IsStableByKey}
use Rattle.acpi_name.specs.Paths.{path_cmp}
use Rattle.acpi_tree.specs.TermView.{terms_tree}
use Rattle.acpi_survey.specs.declared.machine_survey.Survey.{Survey}
use Rattle.acpi_entries.specs.declared.body.BodyReading.{BodyReading}
use Rattle.acpi_entries.specs.declared.body.BodyReading.TheVariants.{Terms, Opaque}
use Rattle.acpi_entries.specs.declared.body.MethodBody.{MethodBody}
use Rattle.acpi_locals.specs.LocalObjects.{LocalParts, local_objects_of}
use Rattle.acpi_locals.specs.LocalViews.{local_views}
use Rattle.acpi_locals.specs.declared.locals.LocalObject.{LocalObject}

abbrev pub locals_of_reading : Survey → (number : ℕ) → BodyReading → List LocalParts
locals_of_reading s number (Terms v) =
    local_objects_of s.reading.walk.entries number (terms_tree v.items)
locals_of_reading s number (Opaque reason place name) = []

-- of the entry of that number
abbrev pub locals_of_body : Survey → (number : ℕ) → Option MethodBody → List LocalParts
locals_of_body s number None = []
locals_of_body s number (Some b) = locals_of_reading s number b.reading

-- of the entries from that number on
abbrev pub locals_of_bodies : Survey → (number : ℕ) → List (Option MethodBody) → List LocalParts
locals_of_bodies s number [] = []
locals_of_bodies s number (b ∷ bs) = locals_of_body s number b ++ locals_of_bodies s (number + 1) bs

-- as they stand in the bodies, and then by path, those of one path in their order
pub record AreLocals (s : Survey) (bodies : List (Option MethodBody)) (found : List LocalObject)
    : Type 0 where
  pub standing : List LocalObject
  pub all : local_views standing ≡ locals_of_bodies s 0 bodies
  pub each : IsPermutation standing found
  pub ascending : IsSortedByKey (λ (l : LocalObject). l.path) path_cmp found
  pub stable : IsStableByKey (λ (l : LocalObject). l.path) path_cmp standing found
