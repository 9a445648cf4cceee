-- From the pass over the items of a table to its listing.
use Rattle.std.proofs.Common.{◌≡◌, ℕ, List, [], ◌∷◌, ◌++◌, None, Ok, Err, refl, sym, ap, subst, ◌∙◌, append_assoc, append-nil}
use Rattle.acpi_tree.specs.Tree.{ItemTrees}
use Rattle.acpi_space.specs.Lookups.{union}
use Rattle.acpi_pass.specs.declared.keep.Keep.{Keep}
use Rattle.acpi_pass.specs.Kept.{kept_of}
use Rattle.acpi_pass.specs.Links.{pending_links, pending_by}
use Rattle.acpi_pass.specs.Listing.{Placement, object_of, scope_within, paths_of, IsFirstRefusal}
use Rattle.acpi_pass.specs.Namespace.{Namespace}
use Rattle.acpi_pass.specs.Notes.{Notes, notes_on}
use Rattle.acpi_pass.specs.Placing.{RefusedAt, placed_path}
use Rattle.acpi_pass.specs.Sites.{sites}
use Rattle.acpi_declare.specs.Tables.{IsTableOf}
use Rattle.acpi_declare.specs.steps.Adding.{AddsTable}
use Rattle.acpi_pass.specs.steps.Pass.{Pass, no_notes, note_of, all_notes, after, after_all, pass_items}
use Rattle.acpi_pass.proofs.PassSteps.{nothing_joined, joined_assoc}
use Rattle.acpi_pass.proofs.Listings.{Ran, Stopped, Outcome, objects_after, items_outcome}

pub outcome : (t : Pass) (is : ItemTrees) → Outcome t [] (sites is) (pass_items t [] is)
outcome t is = items_outcome is t [] 0 None [] refl (λ more. refl)

pub pass_refused : (t : Pass) (is : ItemTrees) (f : RefusedAt) → pass_items t [] is ≡ Err f → IsFirstRefusal t.objects (sites is) f
pass_refused t is f e =
    let o : Stopped t [] (sites is) f = subst (Outcome t [] (sites is)) e (outcome t is) in
    record {
      earlier = o.earlier;
      site = o.site;
      later = o.later;
      placements = o.placements;
      splits = o.splits;
      listing = o.listing;
      refused = ap (λ (m : Namespace). placed_path o.site.step.effect m (scope_within (paths_of o.placements) o.site.inside) o.site.step.name) (sym (objects_after t o.placements)) ∙ o.refused;
    }

after_links : (t : Pass) (es : List Placement) → (after_all t es).links ≡ t.links ++ pending_links es
after_links t [] = sym (append-nil t.links)
after_links t (e ∷ es) = after_links (after t e) es ∙ append_assoc t.links (pending_by e.step.effect e.scope e.path) (pending_links es)

after_notes : (t : Pass) (es : List Placement) → (after_all t es).notes ≡ all_notes t.notes (notes_on t.objects es)
after_notes t [] = sym (nothing_joined t.notes)
after_notes t (e ∷ es) = after_notes (after t e) es ∙ joined_assoc t.notes (note_of t.objects e) (notes_on (union t.objects (object_of e)) es)

-- a pass that begins without notes adds the table
pub pass_adds : (keep : Keep) (depth number : ℕ) (bytes : List ℕ) (is : ItemTrees) (t u : Pass) (notes : List Notes)
    → IsTableOf depth number bytes is → pass_items t [] is ≡ Ok u → t.notes ≡ no_notes
    → AddsTable keep depth number bytes (record { objects = t.objects; links = t.links; notes = notes }) (record { objects = u.objects; links = u.links; notes = notes ++ kept_of keep u.notes })
pass_adds keep depth number bytes is t u notes table e none =
    let o : Ran t [] (sites is) u = subst (Outcome t [] (sites is)) e (outcome t is) in
    let fresh : u.notes ≡ notes_on t.objects o.placements = ap (λ (v : Pass). v.notes) o.after_them ∙ after_notes t o.placements ∙ ap (λ n. all_notes n (notes_on t.objects o.placements)) none in
    record {
      is = is;
      table = table;
      placements = o.placements;
      listing = o.listing;
      objects_are = ap (λ (v : Pass). v.objects) o.after_them ∙ objects_after t o.placements;
      links_are = ap (λ (v : Pass). v.links) o.after_them ∙ after_links t o.placements;
      notes_are = ap (λ n. notes ++ kept_of keep n) fresh;
    }
