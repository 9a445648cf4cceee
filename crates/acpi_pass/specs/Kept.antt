-- What is kept of what a table notes.
use Rattle.std.specs.Prelude.{List, [], ◌∷◌, ◌++◌}
use Rattle.std.specs.List.{filter}
use Rattle.acpi_name.specs.Names.{Segment}
use Rattle.acpi_space.specs.Lookups.{is_same_path}
use Rattle.acpi_pass.specs.declared.keep.Keep.{Keep}
use Rattle.acpi_pass.specs.declared.keep.Keep.TheVariants.{All, MethodAt, Nothing}
use Rattle.acpi_pass.specs.Notes.{Method, Notes}

abbrev pub methods_at : List Segment → List Method → List Method
methods_at p ms = filter (λ m. is_same_path m.path p) ms

-- the notes with these methods in the place of all; nothing where there are none
abbrev pub with_methods : Notes → List Method → List Notes
with_methods n [] = []
with_methods n (m ∷ ms) = record { counts = n.counts; methods = m ∷ ms; missed = n.missed } ∷ []

-- what is kept of a table's notes
abbrev pub kept_of : Keep → Notes → List Notes
kept_of All n = n ∷ []
kept_of (MethodAt p) n = with_methods n (methods_at p.now n.methods)
kept_of Nothing n = []

-- .. and of those of several tables
abbrev pub all_kept : Keep → List Notes → List Notes
all_kept keep [] = []
all_kept keep (n ∷ ns) = kept_of keep n ++ all_kept keep ns
