-- The counts of a table's items are those of its listing.
use Rattle.std.proofs.Common.{◌≡◌, ◌+◌, ℕ, suc, List, [], ◌∷◌, ◌++◌, append_assoc, length, map, Option, Some, None, refl, sym, ap, ap₂, ◌∙◌}
use Rattle.std.specs.List.{flat_map}
use Rattle.acpi_name.specs.Names.{Segment}
use Rattle.acpi_space.specs.Lookups.{union}
use Rattle.acpi_tree.specs.Tree.{ItemTree, scope, ItemTrees, no_items, item}
use Rattle.acpi_declare.specs.Namespace.{Namespace}
use Rattle.acpi_declare.specs.Sites.{Step, kind_object, scope_effect, own_steps, Site, site_in, item_sites, items_sites, sites}
use Rattle.acpi_declare.specs.Listing.{Placement, object_of, IsJustified, IsListing}
use Rattle.acpi_conservative.proofs.ItemCounts.{counted_by, counted, counted_in, all_counted}

abbrev at_sites : List Site → List (Option ℕ)
at_sites xs = flat_map (λ (x : Site). counted_by x.step.effect) xs

-- the counts of a listing
abbrev pub counted_of : List Placement → List (Option ℕ)
counted_of es = flat_map (λ (e : Placement). counted_by e.step.effect) es

both_sites : (xs ys : List Site) → at_sites (xs ++ ys) ≡ at_sites xs ++ at_sites ys
both_sites [] ys = refl
both_sites (x ∷ xs) ys = ap (λ (cs : List (Option ℕ)). counted_by x.step.effect ++ cs) (both_sites xs ys) ∙ sym (append_assoc (counted_by x.step.effect) (at_sites xs) (at_sites ys))

own_counted : (inside : Option ℕ) (xs : List Step) → at_sites (map (site_in inside) xs) ≡ counted xs
own_counted inside [] = refl
own_counted inside (x ∷ xs) = ap (λ (cs : List (Option ℕ)). counted_by x.effect ++ cs) (own_counted inside xs)

mutual
  item_sites_counted : (i : ItemTree) (k : ℕ) (inside : Option ℕ) → at_sites (item_sites k inside i) ≡ counted_in i
  item_sites_counted (scope kind n is) k inside = ap (λ (cs : List (Option ℕ)). counted_by (scope_effect (kind_object kind)) ++ cs) (items_sites_counted is (suc k) (Some k))
  item_sites_counted i k inside = own_counted inside (own_steps i)

  items_sites_counted : (is : ItemTrees) (k : ℕ) (inside : Option ℕ) → at_sites (items_sites k inside is) ≡ all_counted is
  items_sites_counted no_items k inside = refl
  items_sites_counted (item i is) k inside =
      both_sites (item_sites k inside i) (items_sites (k + length (item_sites k inside i)) inside is)
      ∙ ap₂ (λ (cs ds : List (Option ℕ)). cs ++ ds) (item_sites_counted i k inside) (items_sites_counted is (k + length (item_sites k inside i)) inside)

justified_counted : (objects : Namespace) (before : List (List Segment)) (xs : List Site) (es : List Placement) → IsJustified objects before xs es → counted_of es ≡ at_sites xs
justified_counted objects before [] [] j = refl
justified_counted objects before [] (e ∷ es) j = absurd j
justified_counted objects before (x ∷ xs) [] j = absurd j
justified_counted objects before (x ∷ xs) (e ∷ es) j =
    ap₂ (λ (s : Step) (cs : List (Option ℕ)). counted_by s.effect ++ cs) j.0 (justified_counted (union objects (object_of e)) (before ++ e.path ∷ []) xs es j.3)

pub listing_counted : (objects : Namespace) (is : ItemTrees) (es : List Placement) → IsListing objects (sites is) es → counted_of es ≡ all_counted is
listing_counted objects is es l = justified_counted objects [] (sites is) es l ∙ items_sites_counted is 0 None
