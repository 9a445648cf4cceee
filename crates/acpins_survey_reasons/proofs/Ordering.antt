-- The paths of entries.
use Rattle.std.proofs.Common.{◌≡◌, ◌∙◌, List, [], ◌∷◌, map, ap, sym, refl}
use Rattle.acpi_conditions.specs.Entries.{Path, Turn, Entry}
use Rattle.acpi_conditions.specs.EntryForms.{entry_view}
use Rattle.acpi_conditions.specs.declared.entry.Entry.{Entry as EntryForm}

abbrev pub path_of : EntryForm → Path
path_of e = e.path

pub map_twice : {X Y Z : Type 0} (f : Y → Z) (g : X → Y) (xs : List X) → map f (map g xs) ≡ map (λ x. f (g x)) xs
map_twice f g [] = refl
map_twice f g (x ∷ xs) = ap (λ t. f (g x) ∷ t) (map_twice f g xs)

-- the paths of entries as the code keeps them
pub same_paths : (ways : List (List Turn)) (es : List EntryForm) (vs : List Entry) → map (entry_view ways) es ≡ vs → map path_of es ≡ map (λ (e : Entry). e.path) vs
same_paths ways es vs e = sym (map_twice (λ (e : Entry). e.path) (entry_view ways) es) ∙ ap (map (λ (e : Entry). e.path)) e
