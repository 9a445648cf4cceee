-- Tables load to what was declared and read.
use Rattle.std.proofs.Common.{◌≡◌, ℕ, List, [], ◌∷◌, ◌++◌, refl, ap, subst, ◌∙◌}
use Rattle.acpi_space.specs.Lookups.{Lookup, nothing, union}
use Rattle.acpi_pass.specs.declared.keep.Keep.TheVariants.{All}
use Rattle.acpi_declare.specs.Links.{Links}
use Rattle.acpi_declare.specs.Listing.{Placement, objects_of}
use Rattle.acpi_declare.specs.Loads.{IsLoad, AreNotes}
use Rattle.acpi_declare.specs.Namespace.{Namespace}
use Rattle.acpi_declare.specs.Notes.{Notes, all_notes}
use Rattle.acpi_declare.specs.Predefined.{predefined}
use Rattle.acpi_declare.proofs.Refusals.{same_listings}
use Rattle.acpi_declare.proofs.TableLists.{all_are_kept}
use Rattle.acpi_pass.proofs.Unions.{union-nothing}
use Rattle.acpi_body.specs.Bodies.{BodyTree}
use Rattle.acpi_order.specs.Bodies.{Method, methods_of, all_methods, bodies_at}
use Rattle.acpi_order.specs.Machines.{Machine, IsMachine}
use Rattle.acpi_order.specs.steps.Noted.{all_noted}
use Rattle.acpi_machine.specs.steps.Adding.{AddsBodies, HasBodies}
use Rattle.acpi_machine.proofs.AddedBodies.{Added, added}

-- the methods of the notes are those of the tables
pub noted_are_methods : (objects : Namespace) (ts : List (List Placement)) → all_noted (all_notes objects ts) ≡ all_methods ts
noted_are_methods objects [] = refl
noted_are_methods objects (t ∷ ts) = ap (λ ms. methods_of t ++ ms) (noted_are_methods (union objects (objects_of t)) ts)

-- what the tables note are the methods of their listings
pub noted_of_load : (depth : ℕ) (tables : List (List ℕ)) (objects : Namespace) (links : Lookup Links) (notes : List Notes)
    → (h : IsLoad depth tables objects links) → AreNotes depth tables notes → all_noted notes ≡ all_methods h.placements
noted_of_load depth tables objects links notes h a =
    ap all_noted (a.notes_are ∙ ap (all_notes predefined) (same_listings depth 0 predefined tables a.placements h.placements a.listings h.listings)) ∙ noted_are_methods predefined h.placements

pub has_machine : (depth : ℕ) (tables : List (List ℕ)) (objects : Namespace) (links : Lookup Links) (notes : List Notes) (bodies : Lookup BodyTree)
    → IsLoad depth tables objects links → AreNotes depth tables notes → AddsBodies depth objects (all_noted notes) nothing bodies
    → IsMachine depth tables (record { objects = objects; links = links; bodies = bodies })
has_machine depth tables objects links notes bodies h a b =
    let methods : all_noted notes ≡ all_methods h.placements = noted_of_load depth tables objects links notes h a in
    let all : Added depth objects (all_methods h.placements) nothing bodies =
    added depth objects (all_methods h.placements) nothing bodies (subst (λ (ms : List Method). AddsBodies depth objects ms nothing bodies) methods b) in
    record {
      placements = h.placements;
      listings = h.listings;
      objects_are = h.objects_are;
      links_are = h.links_are;
      trees = all.trees;
      read = all.read;
      bodies_are = all.now_is ∙ union-nothing (bodies_at (all_methods h.placements) all.trees);
    }

-- .. where all notes are kept
pub kept_has_machine : (depth : ℕ) (tables : List (List ℕ)) (m : Machine) → HasBodies All depth tables m → IsMachine depth tables m
kept_has_machine depth tables m h =
    has_machine depth tables m.objects m.links h.notes m.bodies h.loads
    (record { placements = h.kept.placements; listings = h.kept.listings; notes_are = h.kept.notes_are ∙ all_are_kept (all_notes predefined h.kept.placements) }) h.bodies
