-- A listing: line after line, and the same of a namespace.
use Rattle.std.proofs.Common.{◌≡◌, ℕ, Bool, true, false, cond, ◌&&◌, T, List, [], ◌∷◌, ◌++◌, map, refl, sym, ap, ◌∙◌, Option, Some, unwrap_or, append_assoc}
use Rattle.std.proofs.lemmas.Grind.{flat_map-append}
use Rattle.std.proofs.lemmas.List.{append-nil, map-append}
use Rattle.std.specs.FinMap.{entries, entries_sorted, get-entries, find, is_sorted}
use Rattle.std.specs.FinMap.Entries.{below_all}
use Rattle.std.specs.Option.{option_map}
use Rattle.std.specs.Ordering.{eq_by_cmp, is_lt}
use Rattle.acpi_name.specs.Names.{Segment}
use Rattle.acpi_name.specs.Paths.{path_cmp}
use Rattle.acpi_space.specs.Spaces.{PathMap}
use Rattle.acpi_tree.specs.Objects.{ObjectTree, object_view}
use Rattle.acpi_tree.specs.declared.object.Object.{Object}
use Rattle.acpi_declare.specs.Namespace.{namespace_of}
use Rattle.acpi_declare.specs.Links.{Links, links_at}
use Rattle.acpi_text.specs.Lines.{line_text, listing_text}
use Rattle.acpins_output.specs.declared.listing.Lines.{Lines}
use Rattle.acpins_output.specs.steps.Lines.{objects_by_path, AreLines}
use Rattle.acpins_output.specs.Listings.{Prints}

-- ---- line after line

pub listing_more : (es fs : List (List Segment × ObjectTree)) (links : List Segment → Option Links) → listing_text (es ++ fs) links ≡ listing_text es links ++ listing_text fs links
listing_more es fs links = flat_map-append (λ (e : List Segment × ObjectTree). line_text e.0 e.1 (unwrap_or (links e.0) [])) es fs

-- one line more
pub line_put : (first now after : Lines) (pairs : List (List Segment × Object)) (path : List Segment) (object : Object) (own : Links)
    → AreLines first pairs now → after.links ≡ now.links → own ≡ unwrap_or (links_at now.links.now path) []
    → after.text ≡ now.text ++ line_text path (object_view object) own
    → AreLines first (pairs ++ (path, object) ∷ []) after
line_put first now after pairs path object own so same is put = record {
  links = same ∙ so.links;
  text = put
      ∙ ap (λ o. now.text ++ line_text path (object_view object) o) (is ∙ ap (λ l. unwrap_or (links_at l.now path) []) so.links)
      ∙ ap (λ l. l ++ line_text path (object_view object) (unwrap_or (links_at first.links.now path) [])) so.text
      ∙ append_assoc first.text _ _
      ∙ ap (λ l. first.text ++ l) (ap (λ l. listing_text (map (λ e. (e.0, object_view e.1)) pairs) (links_at first.links.now) ++ l) (sym (append-nil _))
      ∙ sym (listing_more (map (λ e. (e.0, object_view e.1)) pairs) ((path, object_view object) ∷ []) (links_at first.links.now))
      ∙ ap (λ l. listing_text l (links_at first.links.now)) (sym (map-append (λ e. (e.0, object_view e.1)) pairs ((path, object) ∷ []))));
}

-- no line yet
pub no_line : (first : Lines) → AreLines first [] first
no_line first = record { links = refl; text = sym (append-nil first.text) }

-- ---- the same of a namespace

pub true_of : (b : Bool) → T b → b ≡ true
true_of true h = refl
true_of false h = absurd h

pub find_mapped : {V W : Type 0} (f : V → W) (q : List Segment) (es : List (List Segment × V)) → find path_cmp q (map (λ e. (e.0, f e.1)) es) ≡ option_map f (find path_cmp q es)
find_mapped f q [] = refl
find_mapped f q (e ∷ es) =
    elim (eq_by_cmp path_cmp q e.0) as (λ b. cond b (Some (f e.1)) (find path_cmp q (map (λ e. (e.0, f e.1)) es)) ≡ option_map f (cond b (Some e.1) (find path_cmp q es))) [
      | true ↦ refl
      | false ↦ find_mapped f q es
    ]

below_mapped : {V W : Type 0} (f : V → W) (q : List Segment) (es : List (List Segment × V)) → below_all path_cmp q (map (λ e. (e.0, f e.1)) es) ≡ below_all path_cmp q es
below_mapped f q [] = refl
below_mapped f q (e ∷ es) = ap (λ b. is_lt (path_cmp q e.0) && b) (below_mapped f q es)

pub sorted_mapped : {V W : Type 0} (f : V → W) (es : List (List Segment × V)) → is_sorted path_cmp (map (λ e. (e.0, f e.1)) es) ≡ is_sorted path_cmp es
sorted_mapped f [] = refl
sorted_mapped f (e ∷ es) = ap (λ b. b && is_sorted path_cmp (map (λ e. (e.0, f e.1)) es)) (below_mapped f e.0 es) ∙ ap (λ b. below_all path_cmp e.0 es && b) (sorted_mapped f es)

pub prints : (m : PathMap Object) (links : List Segment → Option Links) (text : List ℕ) → text ≡ listing_text (objects_by_path m) links → Prints (namespace_of m) links text
prints m links text e = record {
  lines = objects_by_path m;
  ascending = sorted_mapped object_view (entries m) ∙ true_of (is_sorted path_cmp (entries m)) (entries_sorted m);
  objects_are = λ p. find_mapped object_view p (entries m) ∙ ap (option_map object_view) (sym (get-entries m p));
  text_is = e;
}
