-- Values by path.
use Rattle.std.proofs.Common.{◌≡◌, Bool, true, false, cond, List, [], ◌∷◌, map, Option, Some, None, refl, sym, ap, ◌∙◌}
use Rattle.std.specs.Option.{option_map, option_or}
use Rattle.std.specs.Ordering.{is_eq}
use Rattle.std.specs.Map.{lookup}
use Rattle.std.specs.FinMap.{FinMap, get, insert, get-insert, get-empty, from_entries}
use Rattle.acpi_name.specs.Names.{Segment}
use Rattle.acpi_name.specs.Paths.{path_cmp}
use Rattle.acpi_name.specs.steps.PathOrder.{path_cmp_total}
use Rattle.acpi_space.specs.Lookups.{is_same_path, nothing, singleton, union}
use Rattle.acpi_space.proofs.Maps.{put_is_insert}

pub lookup_mapped : {V W : Type 0} (f : V → W) (t : List Segment → Bool) (es : List (List Segment × V)) → lookup t (map (λ e. (e.0, f e.1)) es) ≡ option_map f (lookup t es)
lookup_mapped f t [] = refl
lookup_mapped f t (e ∷ es) =
    elim (t e.0) as (λ b. cond b (Some (f e.1)) (lookup t (map (λ e. (e.0, f e.1)) es)) ≡ option_map f (cond b (Some e.1) (lookup t es))) [
      | true ↦ refl
      | false ↦ lookup_mapped f t es
    ]

map_cond : {V W : Type 0} (f : V → W) (b : Bool) (v : V) (o : Option V) → option_map f (cond b (Some v) o) ≡ cond b (Some (f v)) (option_map f o)
map_cond f true v o = refl
map_cond f false v o = refl

pub put_mapped : {V W : Type 0} (f : V → W) (es fs : List (List Segment × V)) (k : List Segment) (v : V)
    → ((q : List Segment) → lookup (λ x. is_eq (path_cmp q x)) fs ≡ cond (is_eq (path_cmp k q)) (Some v) (lookup (λ x. is_eq (path_cmp q x)) es))
    → from_entries {R = path_cmp} (map (λ e. (e.0, f e.1)) fs) ≡ insert (from_entries (map (λ e. (e.0, f e.1)) es)) k (f v)
put_mapped f es fs k v h =
    put_is_insert _ _ k (f v)
    (λ q. lookup_mapped f _ fs ∙ ap (option_map f) (h q) ∙ map_cond f _ v _ ∙ ap (cond (is_eq (path_cmp k q)) (Some (f v))) (sym (lookup_mapped f _ es)))

newest : {V : Type 0} (b : Bool) (v : V) (a : Option V) → cond b (Some v) a ≡ option_or (cond b (Some v) None) a
newest true v a = refl
newest false v a = refl

-- the newest value stands before those that are there
pub get_inserted : {V : Type 0} (m : FinMap path_cmp V) (p : List Segment) (v : V) → get (insert m p v) ≡ union (singleton p v) (get m)
get_inserted m p v = λ i q. at q i
  where
    at : (q : List Segment) → get (insert m p v) q ≡ union (singleton p v) (get m) q
    at q = get-insert path_cmp_total m p v q ∙ newest (is_same_path q p) v (get m q)

pub get_none : {V : Type 0} (es : List (List Segment × V)) → es ≡ [] → get (from_entries {R = path_cmp} es) ≡ nothing
get_none es none = λ i q. at q i
  where
    at : (q : List Segment) → get (from_entries {R = path_cmp} es) q ≡ None
    at q = ap (λ es. get (from_entries {R = path_cmp} es) q) none ∙ get-empty path_cmp q
