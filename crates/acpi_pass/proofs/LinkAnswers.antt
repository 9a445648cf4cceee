-- Links: what is pending goes, path after path, to those that are there.
use Rattle.std.proofs.Common.{◌≡◌, List, [], ◌∷◌, ◌++◌, append_assoc, append-nil, refl, sym, ap, ◌∙◌}
use Rattle.std.proofs.lemmas.List.{map-append}
use Rattle.acpi_name.specs.Names.{Segment, NameParts}
use Rattle.acpi_space.specs.Lookups.{Lookup, singleton, union}
use Rattle.acpi_pass.specs.Pending.{pending_for, pending_from, pending_of, all_pending_of}
use Rattle.acpi_pass.specs.declared.pending.PendingLinks.{PendingLinks}
use Rattle.acpi_pass.specs.Links.{PendingLink, Links, answers, one_link, links_of}
use Rattle.acpi_pass.specs.Namespace.{Namespace}
use Rattle.acpi_pass.specs.steps.View.{links_with}
use Rattle.acpi_pass.proofs.Unions.{union-nothing, union_assoc}

-- the last path counts
links_with_last : (found : Links) (ps : List (List Segment)) (p : List Segment) → links_with found (ps ++ p ∷ []) ≡ union (singleton p found) (links_with found ps)
links_with_last found [] p = sym (union-nothing (singleton p found))
links_with_last found (q ∷ ps) p = ap (λ m. union m (singleton q found)) (links_with_last found ps p) ∙ union_assoc (singleton p found) (links_with found ps) (singleton q found)

-- it goes from those that wait to those that are there
pub path_moves : (found : Links) (p : List Segment) (ps : List (List Segment)) (m : Lookup Links)
    → union (union m (singleton p found)) (links_with found ps) ≡ union m (links_with found (ps ++ p ∷ []))
path_moves found p ps m = union_assoc m (singleton p found) (links_with found ps) ∙ ap (union m) (sym (links_with_last found ps p))

-- ---- several paths with the same names

pub same_answers : (objects : Namespace) (s : List Segment) (names : List NameParts) (ps : List (List Segment)) → links_of objects (pending_from s names ps) ≡ links_with (answers objects s names) ps
same_answers objects s names [] = refl
same_answers objects s names (p ∷ ps) = ap (λ m. union m (singleton p (answers objects s names))) (same_answers objects s names ps)

-- what comes later goes first
links_of_both : (objects : Namespace) (vs ws : List PendingLink) → links_of objects (vs ++ ws) ≡ union (links_of objects ws) (links_of objects vs)
links_of_both objects [] ws = sym (union-nothing (links_of objects ws))
links_of_both objects (v ∷ vs) ws = ap (λ m. union m (one_link objects v)) (links_of_both objects vs ws) ∙ union_assoc (links_of objects ws) (links_of objects vs) (one_link objects v)

-- ---- one more

pub one_more_pending : (ws : List PendingLinks) (w : PendingLinks) → all_pending_of (ws ++ w ∷ []) ≡ all_pending_of ws ++ pending_of w
one_more_pending [] w = append-nil (pending_of w)
one_more_pending (v ∷ ws) w = ap (λ l. pending_of v ++ l) (one_more_pending ws w) ∙ sym (append_assoc (pending_of v) (all_pending_of ws) (pending_of w))

-- all paths of the last go from those that wait to those that are there
pub links_move : (objects : Namespace) (w : PendingLinks) (ws : List PendingLinks) (m : Lookup Links)
    → union (union m (links_of objects (pending_of w))) (links_of objects (all_pending_of ws)) ≡ union m (links_of objects (all_pending_of (ws ++ w ∷ [])))
links_move objects w ws m =
    union_assoc m (links_of objects (pending_of w)) (links_of objects (all_pending_of ws))
    ∙ ap (union m) (sym (links_of_both objects (all_pending_of ws) (pending_of w)) ∙ ap (links_of objects) (sym (one_more_pending ws w)))

pub more_from : (s : List Segment) (names : List NameParts) (ps : List (List Segment)) (p : List Segment)
    → pending_from s names (ps ++ p ∷ []) ≡ pending_from s names ps ++ pending_for p s names ∷ []
more_from s names ps p = map-append (λ q. pending_for q s names) ps (p ∷ [])

-- one more path behind those of its list
pub unit_links : (before after : List PendingLink) (s : List Segment) (names : List NameParts) (ps qs : List (List Segment)) (p q : List Segment)
    → after ≡ before → qs ≡ ps ++ q ∷ [] → q ≡ p → after ++ pending_from s names qs ≡ (before ++ pending_from s names ps) ++ pending_for p s names ∷ []
unit_links before after s names ps qs p q same more is =
    ap (λ l. l ++ pending_from s names qs) same
    ∙ ap (λ (rs : List (List Segment)). before ++ pending_from s names rs) more
    ∙ ap (λ l. before ++ l) (more_from s names ps q)
    ∙ ap (λ (r : List Segment). before ++ (pending_from s names ps ++ pending_for r s names ∷ [])) is
    ∙ sym (append_assoc before (pending_from s names ps) (pending_for p s names ∷ []))
