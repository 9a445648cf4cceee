-- The state of the declaration pass: what contracts see of the code's, and as the definitions see it.
use Rattle.std.specs.Prelude.{ℕ, ◌==◌, cond, List, [], ◌∷◌, ◌++◌, refl}
use Rattle.std.specs.Coded.{Coded, code_by, coded×, coded_list}
use Rattle.std.specs.FinMap as finite
use Rattle.acpi_name.specs.Names.{Segment, NameParts}
use Rattle.acpi_name.specs.Paths.{place_of}
use Rattle.acpi_name.specs.contracts.name.Name as name
use Rattle.acpi_space.specs.Spaces.{PathMap, coded_path}
use Rattle.acpi_space.specs.Lookups.{Lookup, nothing, singleton, union}
use Rattle.acpi_tree.specs.Tree.{ExternalParts}
use Rattle.acpi_tree.specs.declared.object.Object.{Object}
use Rattle.acpi_tree.specs.contracts.object.Object as object
use Rattle.acpi_pass.specs.declared.notes.TableNotes.{TableNotes}
use Rattle.acpi_pass.specs.contracts.notes.TableNotes as notes
use Rattle.acpi_pass.specs.Pending.{pending_from, unit_paths}
use Rattle.acpi_pass.specs.Namespace.{namespace_of}
use Rattle.acpi_pass.specs.Links.{PendingLink, Links}
use Rattle.acpi_pass.specs.Notes.{Method, Notes, count_at, notes_of}
use Rattle.acpi_pass.specs.steps.Pass.{Pass}

-- what contracts see of a pass: the objects, those of a space below, the links to search, and what the table notes
pub record PassState : Type 0 where
  pub objects : PathMap Object
  pub lower : PathMap Object
  pub links : List PendingLink
  pub notes : TableNotes

abbrev coded_objects : Coded (PathMap Object)
coded_objects = finite.code coded_path object.the_row.coded

abbrev coded_link : Coded PendingLink
coded_link = code_by (List Segment × (List Segment × List NameParts))
    (coded× coded_path (coded× coded_path (coded_list name.the_row.coded)))
    (λ w. (w.path, (w.scope, w.names))) (λ p. record { path = p.0; scope = p.1.0; names = p.1.1 })
    (λ _. refl)

abbrev pub pass_code : Coded PassState
pass_code = code_by (PathMap Object × (PathMap Object × (List PendingLink × TableNotes)))
    (coded× coded_objects
    (coded× coded_objects (coded× (coded_list coded_link) notes.the_row.coded)))
    (λ t. (t.objects, (t.lower, (t.links, t.notes))))
    (λ p. record { objects = p.0; lower = p.1.0; links = p.1.1.0; notes = p.1.1.1 }) (λ _. refl)

abbrev pub pass_of : PassState → Pass
pass_of t = record { objects = namespace_of t.objects; links = t.links; notes = notes_of t.notes }

-- .. and with the links of the units that a field list has so far
abbrev pub pass_with_units : PassState → List NameParts → List Segment → List Segment → Pass
pass_with_units t names s segs =
    record {
      objects = namespace_of t.objects;
      links = t.links ++ pending_from s names (unit_paths s segs);
      notes = notes_of t.notes;
    }

-- ---- notes with one more

abbrev pub with_count : Notes → List Segment → ℕ → Notes
with_count n p count =
    record { counts = union n.counts (singleton p count); methods = n.methods; missed = n.missed }

abbrev pub with_counts : Notes → Lookup ℕ → Notes
with_counts n counts =
    record { counts = union n.counts counts; methods = n.methods; missed = n.missed }

abbrev pub with_method : Notes → Method → Notes
with_method n m = record { counts = n.counts; methods = n.methods ++ m ∷ []; missed = n.missed }

abbrev pub with_missed : Notes → List (List Segment) → Notes
with_missed n paths = record { counts = n.counts; methods = n.methods; missed = n.missed ++ paths }

-- ---- counts

-- what an External gives in a scope, and what several give
abbrev pub count_said : List Segment → ExternalParts → Lookup ℕ
count_said s x = cond (x.kind == 8) (count_at x.args x.name.segments (place_of s x.name)) nothing

abbrev pub counts_said : List Segment → List ExternalParts → Lookup ℕ
counts_said s [] = nothing
counts_said s (x ∷ xs) = union (count_said s x) (counts_said s xs)

-- ---- links

-- the same answers at each of the paths
abbrev pub links_with : Links → List (List Segment) → Lookup Links
links_with answers [] = nothing
links_with answers (p ∷ ps) = union (links_with answers ps) (singleton p answers)
