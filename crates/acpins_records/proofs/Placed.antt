-- Records that get their places, and one object more.
use Rattle.std.proofs.Common.{◌≡◌, ℕ, zero, suc, ◌+◌, ◌<◌, zero-add, add-zero, List, [], ◌∷◌, ◌++◌, map, length, take, drop, get_or, set, ◌∙◌, ap, sym, subst, refl, arith, add-one, length-append, append_assoc, Option}
use Rattle.std.specs.FinMap.{get}
use Rattle.std.specs.List.{AllByRecursion}
use Rattle.std.proofs.lemmas.List.{take_more, map-append, length-map, length-take-le}
use Rattle.acpi_name.specs.Names.{Segment}
use Rattle.acpi_space.specs.Lookups.{Lookup}
use Rattle.acpi_tree.specs.Objects.{ObjectTree, object_view}
use Rattle.acpi_tree.specs.declared.object.Object.{Object}
use Rattle.acpi_text.specs.Lines.{line_text, listing_text}
use Rattle.acpi_declare.specs.Links.{Links, links_at}
use Rattle.acpi_places.specs.declared.place.CodePlace.{CodePlace}
use Rattle.acpins_records.specs.declared.building.Entry.{Entry}
use Rattle.acpins_records.specs.declared.building.RecordCollector.{RecordCollector}
use Rattle.acpins_records.specs.declared.records.ObjectRecord.{ObjectRecord}
use Rattle.acpins_records.specs.Records.{record_of, own_links, records_from, data_of, parts_from, bytes_of_data, part_count}
use Rattle.acpins_records.specs.Contents.{all_links, all_data}
use Rattle.acpins_records.specs.steps.Adding.{AddsEntry, placed, placed_from}
use Rattle.acpins_records.specs.steps.Kinds.{AllSuit, Suits, code_by, links_by}
use Rattle.acpins_records.specs.steps.Seeing.{AreFirst, AreSeen, lines_of, no_places}
use Rattle.acpins_records.proofs.RecordsMore.{alike, bytes_more, counts, data_more, length-parts_from, links_more, listing_more, parts_from-append, records_more}

-- ---- places that are set

pub places_set : (k line target part : ℕ) (parents belows : ℕ → ℕ) (es : List (List Segment × ObjectTree)) (links : Lookup Links) (codes : Lookup CodePlace)
    → placed_from k parents belows (records_from k line target part no_places no_places es links codes) ≡ records_from k line target part parents belows es links codes
places_set k line target part parents belows [] links codes = refl
places_set k line target part parents belows (e ∷ es) links codes =
    ap (λ l. record_of line target part (parents k) (belows k) e.0 e.1 (own_links links e.0) (codes e.0) ∷ l)
    (places_set (suc k) (line + length (line_text e.0 e.1 (own_links links e.0))) (target + length (own_links links e.0)) (part + part_count e.1) parents belows es links codes)

module _ (parents belows : ℕ → ℕ) where
  placed_more : (k : ℕ) (rs : List ObjectRecord) (r : ObjectRecord)
      → placed_from k parents belows (rs ++ r ∷ []) ≡ placed_from k parents belows rs ++ placed (parents (k + length rs)) (belows (k + length rs)) r ∷ []
  placed_more k [] r = ap (λ n. placed (parents n) (belows n) r ∷ []) (sym (add-zero k))
  placed_more k (s ∷ rs) r =
      let place : suc k + length rs ≡ k + suc (length rs) = omega arith in
      ap (λ l. placed (parents k) (belows k) s ∷ l)
      (placed_more (suc k) rs r ∙ ap (λ n. placed_from (suc k) parents belows rs ++ placed (parents n) (belows n) r ∷ []) place)

  pub length-placed : (k : ℕ) (rs : List ObjectRecord) → length (placed_from k parents belows rs) ≡ length rs
  length-placed k [] = refl
  length-placed k (r ∷ rs) = ap suc (length-placed (suc k) rs)

  set_behind : (rs rest : List ObjectRecord) (r s : ObjectRecord) (k : ℕ) → k ≡ length rs → set (rs ++ r ∷ rest) k s ≡ rs ++ s ∷ rest
  set_behind [] rest r s zero e = refl
  set_behind [] rest r s (suc k) e = absurd (omega (arith, e))
  set_behind (q ∷ rs) rest r s zero e = absurd (omega (arith, e))
  set_behind (q ∷ rs) rest r s (suc k) e = ap (λ l. q ∷ l) (set_behind rs rest r s k (omega (arith, e)))

  get_behind : (rs rest : List ObjectRecord) (r d : ObjectRecord) (k : ℕ) → k ≡ length rs → get_or (rs ++ r ∷ rest) k d ≡ r
  get_behind [] rest r d zero e = refl
  get_behind [] rest r d (suc k) e = absurd (omega (arith, e))
  get_behind (q ∷ rs) rest r d zero e = absurd (omega (arith, e))
  get_behind (q ∷ rs) rest r d (suc k) e = get_behind rs rest r d k (omega (arith, e))

  rest_is : (rs : List ObjectRecord) (k : ℕ) (d : ObjectRecord) → k < length rs → drop k rs ≡ get_or rs k d ∷ drop (suc k) rs
  rest_is [] k d h = absurd (omega (arith, h))
  rest_is (r ∷ rs) zero d h = refl
  rest_is (r ∷ rs) (suc k) d h = rest_is rs k d (omega (arith, h))

  -- the places of one object more
  pub placed_next : (first old : List ObjectRecord) (k parent below : ℕ) (d s : ObjectRecord) → k < length first → old ≡ placed_from 0 parents belows (take k first) ++ drop k first
      → s ≡ placed parent below (get_or old k d) → parent ≡ parents k → below ≡ belows k → set old k s ≡ placed_from 0 parents belows (take (k + 1) first) ++ drop (k + 1) first
  placed_next first old k parent below d s within so is parent_is below_is =
      let front = placed_from 0 parents belows (take k first) in
      let rest = drop (suc k) first in
      let x = get_or first k d in
      let count : k ≡ length front = sym (length-placed 0 (take k first) ∙ length-take-le k first (omega (arith, within))) in
      let old_is : old ≡ front ++ x ∷ rest = so ∙ ap (λ l. front ++ l) (rest_is first k d within) in
      let read : get_or old k d ≡ x = ap (λ l. get_or l k d) old_is ∙ get_behind front rest x d k count in
      let places : 0 + length (take k first) ≡ k = omega (arith, length-take-le k first (omega (arith, within))) in
      ap (λ l. set l k s) old_is ∙ set_behind front rest x s k count
      ∙ ap (λ q. front ++ q ∷ rest) (is ∙ ap (λ n. placed n below (get_or old k d)) parent_is ∙ ap (λ n. placed (parents k) n (get_or old k d)) below_is ∙ ap (placed (parents k) (belows k)) read)
      ∙ sym (ap (λ n. placed_from 0 parents belows (take (k + 1) first) ++ drop n first) (add-one k)
      ∙ ap (λ l. placed_from 0 parents belows l ++ rest) (take_more first k d within)
      ∙ ap (λ l. l ++ rest) (placed_more 0 (take k first) x ∙ ap (λ n. front ++ placed (parents n) (belows n) x ∷ []) places)
      ∙ append_assoc front (placed (parents k) (belows k) x ∷ []) rest)

-- ---- one object more

all_front : {X : Type 0} (P : X → Type 0) (xs : List X) (x : X) → AllByRecursion P (xs ++ x ∷ []) → AllByRecursion P xs × P x
all_front P [] x h = (tt, h.0)
all_front P (y ∷ xs) x h = let more = all_front P xs x h.1 in ((h.0, more.0), more.1)

record_alike : (line target target' part : ℕ) (path : List Segment) (object : ObjectTree) (own own' : Links) (code code' : Option CodePlace) → target ≡ target' → own ≡ own' → code ≡ code'
    → record_of line target part 0 0 path object own code ≡ record_of line target' part 0 0 path object own' code'
record_alike line target target' part path object own own' code code' a b c =
    ap (λ n. record_of line n part 0 0 path object own code) a ∙ ap (λ l. record_of line target' part 0 0 path object l code) b ∙ ap (λ o. record_of line target' part 0 0 path object own' o) c

module _ (links : Lookup Links) (codes : Lookup CodePlace) where
  first_more : (es : List (List Segment × ObjectTree)) (e : Entry) (old new : RecordCollector)
      → e.links.now ≡ own_links links e.path.now → e.code ≡ codes e.path.now → e.target ≡ length old.wanted.items
      → AreFirst es links codes old → AddsEntry e old.records new.records → map (λ a. a.now) new.wanted.items ≡ map (λ a. a.now) old.wanted.items ++ e.links.now
      → AreFirst (es ++ (e.path.now, object_view e.object.now) ∷ []) links codes new
  first_more es e old new own_is code_is target_is so adds wants =
      let path : List Segment = e.path.now in
      let object : ObjectTree = object_view e.object.now in
      let own : Links = own_links links path in
      let line : length old.records.text.items ≡ 0 + length (listing_text es links) = ap length so.text_is ∙ sym (zero-add (length (listing_text es links))) in
      let target : e.target ≡ 0 + length (all_links es links) =
      target_is ∙ sym (length-map old.wanted.items (λ a. a.now)) ∙ ap length so.wanted_are ∙ sym (zero-add (length (all_links es links))) in
      let part : length old.records.«data».parts.items ≡ 0 + counts (all_data es) =
      ap length so.parts_are ∙ length-parts_from 0 0 (all_data es) ∙ sym (zero-add (counts (all_data es))) in
      let byte : length old.records.«data».bytes.items ≡ 0 + length (bytes_of_data (all_data es)) = ap length so.bytes_are ∙ sym (zero-add (length (bytes_of_data (all_data es)))) in
      record {
        objects_are = adds.objects_are
            ∙ ap (λ l. l ++ record_of (length old.records.text.items) e.target (length old.records.«data».parts.items) 0 0 path object e.links.now e.code ∷ []) so.objects_are
            ∙ ap (λ r. records_from 0 0 0 0 no_places no_places es links codes ++ r ∷ [])
            (record_alike (length old.records.text.items) e.target e.target (length old.records.«data».parts.items) path object e.links.now own e.code (codes path) refl own_is code_is
            ∙ alike no_places no_places links codes path object (length es) (0 + length es) _ _ _ _ _ _ (sym (zero-add (length es))) line target part)
            ∙ sym (records_more no_places no_places links codes 0 0 0 0 es path object);
        no_targets = adds.targets_stay ∙ so.no_targets;
        wanted_are = wants ∙ ap (λ l. l ++ e.links.now) so.wanted_are ∙ ap (λ l. all_links es links ++ l) own_is ∙ sym (links_more es path object links);
        text_is = adds.text_is ∙ ap (λ t. t ++ line_text path object e.links.now) so.text_is
            ∙ ap (λ l. listing_text es links ++ line_text path object l) own_is
            ∙ sym (listing_more es path object links);
        parts_are = adds.data_is.parts_are
            ∙ ap (λ l. l ++ parts_from (length old.records.«data».parts.items) (length old.records.«data».bytes.items) (data_of object)) so.parts_are
            ∙ ap (λ n. parts_from 0 0 (all_data es) ++ parts_from n (length old.records.«data».bytes.items) (data_of object)) part
            ∙ ap (λ n. parts_from 0 0 (all_data es) ++ parts_from (0 + counts (all_data es)) n (data_of object)) byte
            ∙ sym (parts_from-append 0 0 (all_data es) (data_of object))
            ∙ ap (parts_from 0 0) (sym (data_more es path object));
        bytes_are = adds.data_is.bytes_are
            ∙ ap (λ l. l ++ bytes_of_data (data_of object)) so.bytes_are
            ∙ sym (bytes_more (all_data es) (data_of object))
            ∙ ap bytes_of_data (sym (data_more es path object));
      }

pub seen_more : (first old new : RecordCollector) (pairs : List (List Segment × Object)) (e : Entry)
    → AreSeen first pairs old → new.links ≡ old.links → new.codes ≡ old.codes
    → e.links.now ≡ links_by (object_view e.object.now) (own_links (links_at old.links.now) e.path.now) → e.code ≡ code_by (object_view e.object.now) (get old.codes e.path.now)
    → e.target ≡ length old.wanted.items → AddsEntry e old.records new.records → map (λ a. a.now) new.wanted.items ≡ map (λ a. a.now) old.wanted.items ++ e.links.now
    → new.paths ≡ old.paths ++ e.path.now ∷ []
    → AreSeen first (pairs ++ (e.path.now, e.object.now) ∷ []) new
seen_more first old new pairs e so same_links same_codes own_is code_is target_is adds wants puts =
    let x : List Segment × Object = (e.path.now, e.object.now) in
    let lines_are : lines_of (pairs ++ x ∷ []) ≡ lines_of pairs ++ (e.path.now, object_view e.object.now) ∷ [] = map-append (λ (f : List Segment × Object). (f.0, object_view f.1)) pairs (x ∷ []) in
    let links : Lookup Links = links_at first.links.now in
    let codes : Lookup CodePlace = get first.codes in
    record {
      links_stay = same_links ∙ so.links_stay;
      codes_stay = same_codes ∙ so.codes_stay;
      paths_are = puts ∙ ap (λ l. l ++ e.path.now ∷ []) so.paths_are ∙ sym (map-append (λ (f : List Segment × Object). f.0) pairs (x ∷ []));
      count_is = ap length adds.objects_are ∙ length-append old.records.objects.items _ ∙ ap (λ n. n + 1) so.count_is ∙ sym (length-append pairs (x ∷ []));
      are = λ suit.
          let both = all_front (λ (f : List Segment × ObjectTree). Suits links codes f.0 f.1) (lines_of pairs) (e.path.now, object_view e.object.now) (subst (λ l. AllSuit links codes l) lines_are suit) in
          subst (λ l. AreFirst l links codes new) (sym lines_are)
          (first_more links codes (lines_of pairs) e old new
          (own_is ∙ ap (λ l. links_by (object_view e.object.now) (own_links (links_at l.now) e.path.now)) so.links_stay ∙ sym both.1.links_are)
          (code_is ∙ ap (λ c. code_by (object_view e.object.now) (get c e.path.now)) so.codes_stay ∙ sym both.1.code_is)
          target_is (so.are both.0) adds wants);
    }
