-- The records of all objects of a load.
use Rattle.std.proofs.Common.{◌≡◌, ◌<◌, ℕ, length, true, false, cond, List, [], ◌∷◌, ◌++◌, map, refl, sym, ap, ◌∙◌, subst, Some}
use Rattle.std.specs.FinMap.{entries, entries_sorted, get-entries, find, is_sorted}
use Rattle.std.specs.FinMap.Entries.{below_all}
use Rattle.std.specs.List.{AllByRecursion, AllZip}
use Rattle.std.specs.Option.{option_map}
use Rattle.std.specs.Ordering.{eq_by_cmp, is_eq, ordering_reverse}
use Rattle.std.specs.declared.cmp.Ordering.TheVariants.{Less}
use Rattle.std.proofs.lemmas.List.{length-map}
use Rattle.acpi_name.specs.Names.{Segment}
use Rattle.acpi_name.specs.Paths.{path_cmp}
use Rattle.acpi_name.specs.steps.PathOrder.{path_cmp_total}
use Rattle.acpi_space.specs.Spaces.{PathMap}
use Rattle.acpi_space.specs.Lookups.{Lookup}
use Rattle.acpi_space.proofs.Comparisons.{path_itself}
use Rattle.acpi_space.proofs.Elements.{all_map}
use Rattle.acpi_tree.specs.Objects.{ObjectTree, object_view}
use Rattle.acpi_tree.specs.declared.object.Object.{Object}
use Rattle.acpi_declare.specs.Listing.{Placement}
use Rattle.acpi_declare.specs.Namespace.{Namespace, namespace_of}
use Rattle.acpi_declare.specs.Links.{Links, all_pending, links_of}
use Rattle.acpi_declare.specs.Loads.{IsLoad, objects_after}
use Rattle.acpi_declare.specs.Predefined.{predefined}
use Rattle.acpi_declare.proofs.Refusals.{same_listings}
use Rattle.acpi_places.specs.Places.{AreCodePlaces, all_by_path}
use Rattle.acpi_places.specs.declared.place.CodePlace.{CodePlace}
use Rattle.acpins_output.specs.steps.Lines.{objects_by_path}
use Rattle.acpins_output.proofs.Printing.{true_of, find_mapped, sorted_mapped}
use Rattle.acpins_records.specs.declared.building.Records.{Records}
use Rattle.acpins_records.specs.declared.building.RecordCollector.{RecordCollector}
use Rattle.acpins_records.specs.Contents.{all_links, paths_in}
use Rattle.acpins_records.specs.Written.{IsContentsOf}
use Rattle.acpins_records.specs.steps.Adding.{AddsTargets, AreRecords, contents_in, placed_from}
use Rattle.acpins_records.specs.steps.Kinds.{AllSuit, Suits}
use Rattle.acpins_records.specs.steps.Runs.{Ascend}
use Rattle.acpins_records.specs.steps.Seeing.{AreFirst, AreSeen}
use Rattle.acpins_records.specs.Tree.{IsParent, EndsBelow, IsPlaceOf}
use Rattle.acpins_records.proofs.Answered.{targets_from, all_in}
use Rattle.acpins_records.proofs.Suited.{object_suits}
use Rattle.acpins_records.proofs.Placed.{places_set}
use Rattle.acpins_records.proofs.Prefixes.{ascends, both_first, both_second, less, paths_of}

-- ---- the walk

pub nothing_seen : (first : RecordCollector) → first.records.objects.items ≡ [] → first.records.targets.items ≡ [] → first.records.text.items ≡ [] → first.records.«data».parts.items ≡ []
    → first.records.«data».bytes.items ≡ [] → first.paths ≡ [] → first.wanted.items ≡ [] → AreSeen first [] first
nothing_seen first objects targets text parts bytes paths wanted = record {
  links_stay = refl;
  codes_stay = refl;
  paths_are = paths;
  count_is = ap length objects;
  are = λ suit. record {
    objects_are = objects;
    no_targets = targets;
    wanted_are = ap (map (λ a. a.now)) wanted;
    text_is = text;
    parts_are = parts;
    bytes_are = bytes;
  };
}

entries_ascend : (m : PathMap Object) → is_sorted path_cmp (entries m) ≡ true
entries_ascend m = true_of (is_sorted path_cmp (entries m)) (entries_sorted m)

pub paths_ascend : (m : PathMap Object) (paths : List (List Segment)) → paths ≡ paths_of (entries m) → Ascend paths
paths_ascend m paths are = subst Ascend (sym are) (ascends (entries m) (entries_ascend m))

-- as many records as paths
pub as_many : (first now : RecordCollector) (pairs : List (List Segment × Object)) → AreSeen first pairs now → length now.paths ≡ length now.records.objects.items
as_many first now pairs so = ap length so.paths_are ∙ length-map pairs (λ e. e.0) ∙ sym so.count_is

paths_viewed : (pairs : List (List Segment × Object)) → paths_of pairs ≡ paths_in (map {A = List Segment × Object} {B = List Segment × ObjectTree} (λ e. (e.0, object_view e.1)) pairs)
paths_viewed [] = refl
paths_viewed (p ∷ pairs) = ap (λ l. p.0 ∷ l) (paths_viewed pairs)

-- the records that were seen, with their places and targets
pub records_whole : (m : PathMap Object) (links : Lookup Links) (codes : Lookup CodePlace) (s : RecordCollector) (parents belows : ℕ → ℕ) (r : Records)
    → s.paths ≡ paths_of (entries m)
    → ((k : ℕ) → k < length s.paths → IsParent s.paths k (parents k)) → ((k : ℕ) → k < length s.paths → EndsBelow s.paths k (belows k))
    → r.objects.items ≡ placed_from 0 parents belows s.records.objects.items
    → AddsTargets s.paths (map (λ a. a.now) s.wanted.items) s.records.targets.items r.targets.items
    → r.text.items ≡ s.records.text.items → r.«data».parts.items ≡ s.records.«data».parts.items → r.«data».bytes.items ≡ s.records.«data».bytes.items
    → AreFirst (objects_by_path m) links codes s → AreRecords (objects_by_path m) links codes r
records_whole m links codes s parents belows r paths_are are_parents are_belows placed targets text parts bytes first =
    let paths : s.paths ≡ paths_in (objects_by_path m) = paths_are ∙ paths_viewed (entries m) in
    let count : length (objects_by_path m) ≡ length s.paths = sym (ap length paths ∙ length-map (objects_by_path m) (λ e. e.0)) in
    let more_is : r.targets.items ≡ targets.more = targets.behind ∙ ap (λ l. l ++ targets.more) first.no_targets in
    record {
      parents = parents;
      belows = belows;
      are_parents = λ k below. subst (λ ps. IsParent ps k (parents k)) paths (are_parents k (subst (λ n. k < n) count below));
      are_belows = λ k below. subst (λ ps. EndsBelow ps k (belows k)) paths (are_belows k (subst (λ n. k < n) count below));
      objects_are = placed ∙ ap (placed_from 0 parents belows) first.objects_are ∙ places_set 0 0 0 0 parents belows (objects_by_path m) links codes;
      targets_are = subst (λ ps. AllZip (IsPlaceOf ps) (all_links (objects_by_path m) links) r.targets.items) paths
          (subst (λ l. AllZip (IsPlaceOf s.paths) l r.targets.items) first.wanted_are (subst (λ t. AllZip (IsPlaceOf s.paths) (map (λ a. a.now) s.wanted.items) t) (sym more_is) targets.are));
      text_is = text ∙ first.text_is;
      parts_are = parts ∙ first.parts_are;
      bytes_are = bytes ∙ first.bytes_are;
    }

-- ---- each object is found at its path

apart : (p q : List Segment) → path_cmp p q ≡ Less → eq_by_cmp path_cmp q p ≡ false
apart p q less = ap is_eq (path_cmp_total.antisymm q p ∙ ap ordering_reverse less)

-- behind another pair
found_behind : {V : Type 0} (f : List Segment × V) (es rest : List (List Segment × V)) → below_all path_cmp f.0 rest ≡ true → AllByRecursion (λ e. find path_cmp e.0 es ≡ Some e.1) rest
    → AllByRecursion (λ e. find path_cmp e.0 (f ∷ es) ≡ Some e.1) rest
found_behind f es [] below h = tt
found_behind f es (e ∷ rest) below h =
    (ap (λ b. cond b (Some f.1) (find path_cmp e.0 es)) (apart f.0 e.0 (less (path_cmp f.0 e.0) (both_first _ _ below))) ∙ h.0, found_behind f es rest (both_second _ _ below) h.1)

all_found : {V : Type 0} (es : List (List Segment × V)) → is_sorted path_cmp es ≡ true → AllByRecursion (λ e. find path_cmp e.0 es ≡ Some e.1) es
all_found [] h = tt
all_found (f ∷ es) h =
    (ap (λ b. cond b (Some f.1) (find path_cmp f.0 es)) (path_itself f.0), found_behind f es es (both_first _ _ h) (all_found es (both_second _ _ h)))

-- the lines of a map's objects
lines_ascend : (m : PathMap Object) → is_sorted path_cmp (objects_by_path m) ≡ true
lines_ascend m = sorted_mapped object_view (entries m) ∙ entries_ascend m

lines_found : (m : PathMap Object) (p : List Segment) → find path_cmp p (objects_by_path m) ≡ namespace_of m p
lines_found m p = find_mapped object_view p (entries m) ∙ ap (option_map object_view) (sym (get-entries m p))

-- ---- a load

-- no other objects of a load have links or code
pub load_suits : (depth : ℕ) (tables : List (List ℕ)) (m : PathMap Object) (links : Lookup Links) (codes : Lookup CodePlace)
    → IsLoad depth tables (namespace_of m) links → AreCodePlaces depth tables codes → AllSuit links codes (objects_by_path m)
load_suits depth tables m links codes loads are =
    let objects : Namespace = objects_after predefined loads.placements in
    let same : are.placements ≡ loads.placements = same_listings depth 0 predefined tables are.placements loads.placements are.listings loads.listings in
    let links_is : links ≡ links_of objects (all_pending loads.placements) = loads.links_are ∙ ap (λ (n : Namespace). links_of n (all_pending loads.placements)) loads.objects_are in
    let codes_is : codes ≡ all_by_path loads.placements are.codes = are.by_paths ∙ ap (λ (ts : List (List Placement)). all_by_path ts are.codes) same in
    let suits : (p : List Segment) (o : ObjectTree) → namespace_of m p ≡ Some o → Suits links codes p o =
    λ p o there. subst (λ (l : Lookup Links). Suits l codes p o) (sym links_is)
    (subst (λ (c : Lookup CodePlace). Suits (links_of objects (all_pending loads.placements)) c p o) (sym codes_is)
    (object_suits depth tables loads.placements are.codes loads.listings p o (ap (λ (n : Namespace). n p) (sym loads.objects_are) ∙ there))) in
    all_map (λ (e : List Segment × ObjectTree). find path_cmp e.0 (objects_by_path m) ≡ Some e.1) (λ (e : List Segment × ObjectTree). Suits links codes e.0 e.1) (λ e found. suits e.0 e.1 (sym (lines_found m e.0) ∙ found))
    (objects_by_path m) (all_found (objects_by_path m) (lines_ascend m))

pub whole_records : (depth : ℕ) (tables : List (List ℕ)) (m : PathMap Object) (links : Lookup Links) (codes : Lookup CodePlace) (r : Records)
    → IsLoad depth tables (namespace_of m) links → AreCodePlaces depth tables codes → AreRecords (objects_by_path m) links codes r
    → IsContentsOf depth tables (contents_in r)
whole_records depth tables m links codes r loads are_codes made = record {
  objects = namespace_of m;
  links = links;
  loads = loads;
  codes = codes;
  are_codes = are_codes;
  lines = objects_by_path m;
  ascending = lines_ascend m;
  objects_are = lines_found m;
  contents = record {
    parents = made.parents;
    belows = made.belows;
    are_parents = made.are_parents;
    are_belows = made.are_belows;
    objects_are = made.objects_are;
    targets_are = targets_from (paths_in (objects_by_path m)) (all_links (objects_by_path m) links) r.targets.items
        (all_in (namespace_of m) (objects_by_path m) (lines_found m) (objects_by_path m) links (all_pending loads.placements) loads.links_are) made.targets_are;
    text_is = made.text_is;
    parts_are = made.parts_are;
    bytes_are = made.bytes_are;
  };
}
