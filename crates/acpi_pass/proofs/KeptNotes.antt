-- What is kept of the notes of a table, as the code keeps them.
use Rattle.std.proofs.Common.{◌≡◌, ◌≢◌, List, [], ◌∷◌, map, Bool, refl, sym, ap, ◌∙◌}
use Rattle.std.specs.FinMap.{get}
use Rattle.std.specs.List.{filter}
use Rattle.acpi_name.specs.Names.{Segment}
use Rattle.acpi_space.specs.Lookups.{is_same_path}
use Rattle.acpi_space.proofs.AmongPaths.{filter_mapped}
use Rattle.acpi_pass.specs.Kept.{methods_at, with_methods}
use Rattle.acpi_pass.specs.Notes.{method_of, notes_of}
use Rattle.acpi_pass.specs.declared.notes.Method as code
use Rattle.acpi_pass.specs.declared.notes.TableNotes.{TableNotes}

abbrev at_path : List Segment → code.Method → Bool
at_path p m = is_same_path m.path p

at_mapped : (p : List Segment) (ms : List code.Method) → methods_at p (map method_of ms) ≡ map method_of (filter (at_path p) ms)
at_mapped p ms = filter_mapped (λ m. is_same_path m.path p) method_of ms

-- some methods stand at the path
pub some_kept : (p : List Segment) (t : TableNotes) (ms : List code.Method) → ms ≡ filter (at_path p) t.methods.items → ms ≢ []
    → with_methods (notes_of t) (methods_at p (map method_of t.methods.items)) ≡ record { counts = get t.counts; methods = map method_of ms; missed = t.missed.items } ∷ []
some_kept p t [] e some = absurd (some refl)
some_kept p t (m ∷ ms) e some = ap (with_methods (notes_of t)) (at_mapped p t.methods.items ∙ ap (map method_of) (sym e))

-- none does
pub none_kept : (p : List Segment) (t : TableNotes) (ms : List code.Method) → ms ≡ filter (at_path p) t.methods.items → ms ≡ []
    → with_methods (notes_of t) (methods_at p (map method_of t.methods.items)) ≡ []
none_kept p t ms e none = ap (with_methods (notes_of t)) (at_mapped p t.methods.items ∙ ap (map method_of) (sym e ∙ none))
