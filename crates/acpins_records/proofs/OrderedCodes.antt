-- The places of methods' code are the same for every order of independent SSDTs, but for the numbers of tables.
use Rattle.std.proofs.Common.{◌≡◌, ◌≢◌, ◌⊎◌, inl, inr, ℕ, suc, Bool, true, false, cond, List, [], ◌∷◌, map, Option, Some, None, unwrap_or, IsPermutation, refl, sym, ap, subst, ◌∙◌}
use Rattle.std.specs.List.{AllZip}
use Rattle.std.specs.Option.{option_or}
use Rattle.std.proofs.lemmas.List.Sorted.{IsPermutation-sym}
use Rattle.acpi_name.specs.Names.{Segment}
use Rattle.acpi_space.specs.Laws.{Among}
use Rattle.acpi_space.specs.Lookups.{Lookup, is_same_path}
use Rattle.acpi_declare.specs.Notes.{Method, methods}
use Rattle.acpi_declare.specs.Predefined.{predefined}
use Rattle.acpi_declare.proofs.Refusals.{same_listings}
use Rattle.acpi_pass.proofs.Unions.{path_same}
use Rattle.acpi_order.specs.Misses.{Listing}
use Rattle.acpi_order.specs.Independent.{AreSingleListings, IsIndependent}
use Rattle.acpi_order.specs.Orders.{AreReordered}
use Rattle.acpi_order.proofs.Joined.{listed_alone}
use Rattle.acpi_order.proofs.Listings.{AreAlone}
use Rattle.acpi_order.proofs.Orders.{among_in_any_order, some_in_any_order, independent_in_any_order}
use Rattle.acpi_places.specs.declared.place.CodePlace.{CodePlace}
use Rattle.acpi_places.specs.Places.{AreTablePlaces, AreAllPlaces, AreCodePlaces, by_path, all_by_path}
use Rattle.acpi_places.specs.Laws.{IsPlaced, AreTablePlaced}
use Rattle.acpi_places.proofs.Apart.{each_is_placed}
use Rattle.acpi_places.proofs.Numbered.{in_table, same_but_numbers}
use Rattle.acpins_records.specs.Records.{no_code}

-- ---- methods with the places of their code

-- a method of the path has that place
abbrev IsIn : List Method → List CodePlace → List Segment → CodePlace → Type 0
IsIn [] cs p c = ⊥
IsIn (m ∷ ms) [] p c = ⊥
IsIn (m ∷ ms) (d ∷ ds) p c = ((m.path ≡ p) × (d ≡ c)) ⊎ IsIn ms ds p c

found_in : (ms : List Method) (cs : List CodePlace) (p : List Segment) (c : CodePlace) → by_path ms cs p ≡ Some c → IsIn ms cs p c
found_in [] cs p c e = cc
found_in (m ∷ ms) [] p c e = cc
found_in (m ∷ ms) (d ∷ ds) p c e = by (found_in ms ds p c) (is_same_path p m.path) refl e
  where
    by : (by_path ms ds p ≡ Some c → IsIn ms ds p c) → (b : Bool) → is_same_path p m.path ≡ b → option_or (cond b (Some d) None) (by_path ms ds p) ≡ Some c → IsIn (m ∷ ms) (d ∷ ds) p c
    by later true same is = inl (sym (path_same p m.path same), cc)
    by later false same is = inr (later is)

placed_in : (codes : Lookup CodePlace) (ms : List Method) (cs : List CodePlace) (p : List Segment) (c : CodePlace) → AllZip (IsPlaced codes) ms cs → IsIn ms cs p c → codes p ≡ Some c
placed_in codes [] cs p c h i = absurd i
placed_in codes (m ∷ ms) [] p c h i = absurd i
placed_in codes (m ∷ ms) (d ∷ ds) p c h (inl i) = ap codes (sym i.0) ∙ h.0 ∙ ap (λ (x : CodePlace). Some x) i.1
placed_in codes (m ∷ ms) (d ∷ ds) p c h (inr i) = placed_in codes ms ds p c h.1 i

numbered_in : (number : ℕ) (ms : List Method) (cs : List CodePlace) (p : List Segment) (c : CodePlace) → IsIn ms cs p c → IsIn ms (map (in_table number) cs) p (in_table number c)
numbered_in number [] cs p c i = absurd i
numbered_in number (m ∷ ms) [] p c i = absurd i
numbered_in number (m ∷ ms) (d ∷ ds) p c (inl i) = inl (i.0, ap (in_table number) i.1)
numbered_in number (m ∷ ms) (d ∷ ds) p c (inr i) = inr (numbered_in number ms ds p c i)

-- ---- tables with their listings

-- the table has that listing
abbrev HasListing : List (List ℕ) → List Listing → List ℕ → Listing → Type 0
HasListing [] ts b t = ⊥
HasListing (a ∷ bs) [] b t = ⊥
HasListing (a ∷ bs) (s ∷ ss) b t = ((a ≡ b) × (s ≡ t)) ⊎ HasListing bs ss b t

-- a table, its listing, and the place of a method's code in it
record IsCodeIn (bs : List (List ℕ)) (ts : List Listing) (p : List Segment) (c : CodePlace) : Type 0 where
  number : ℕ
  bytes : List ℕ
  listing : Listing
  places : List CodePlace
  there : HasListing bs ts bytes listing
  are : AreTablePlaces number bytes (methods listing) places
  is : IsIn (methods listing) places p c

code_behind : (b : List ℕ) (t : Listing) (bs : List (List ℕ)) (ts : List Listing) (p : List Segment) (c : CodePlace) → IsCodeIn bs ts p c → IsCodeIn (b ∷ bs) (t ∷ ts) p c
code_behind b t bs ts p c h = record { number = h.number; bytes = h.bytes; listing = h.listing; places = h.places; there = inr h.there; are = h.are; is = h.is }

code_found : (number : ℕ) (bs : List (List ℕ)) (ts : List Listing) (css : List (List CodePlace)) (p : List Segment) (c : CodePlace) → AreAllPlaces number bs ts css
    → all_by_path ts css p ≡ Some c → IsCodeIn bs ts p c
code_found number bs [] css p c h e = cc
code_found number bs (t ∷ ts) [] p c h e = cc
code_found number [] (t ∷ ts) (cs ∷ css) p c h e = absurd h
code_found number (b ∷ bs) (t ∷ ts) (cs ∷ css) p c h e = by (code_found (suc number) bs ts css p c h.1) (by_path (methods t) cs p) refl e
  where
    by : (all_by_path ts css p ≡ Some c → IsCodeIn bs ts p c) → (o : Option CodePlace) → by_path (methods t) cs p ≡ o → option_or o (all_by_path ts css p) ≡ Some c
        → IsCodeIn (b ∷ bs) (t ∷ ts) p c
    by later (Some d) at is = record {
      number = number;
      bytes = b;
      listing = t;
      places = cs;
      there = inl (refl, refl);
      are = h.0;
      is = found_in (methods t) cs p c (at ∙ is);
    }
    by later None at is = code_behind b t bs ts p c (later is)

-- the same place, in the table of some number
record IsPlacedAs (codes : Lookup CodePlace) (p : List Segment) (c : CodePlace) : Type 0 where
  number : ℕ
  placed : codes p ≡ Some (in_table number c)

code_placed : (codes : Lookup CodePlace) (number other : ℕ) (bs : List (List ℕ)) (ts : List Listing) (css : List (List CodePlace)) (b : List ℕ) (t : Listing) (cs : List CodePlace)
    (p : List Segment) (c : CodePlace) → AreAllPlaces number bs ts css → AllZip (AreTablePlaced codes) ts css → HasListing bs ts b t
    → AreTablePlaces other b (methods t) cs → IsIn (methods t) cs p c → IsPlacedAs codes p c
code_placed codes number other [] ts css b t cs p c h k i are is = absurd i
code_placed codes number other (a ∷ bs) [] css b t cs p c h k i are is = absurd i
code_placed codes number other (a ∷ bs) (s ∷ ss) [] b t cs p c h k i are is = absurd h
code_placed codes number other (a ∷ bs) (s ∷ ss) (ds ∷ css) b t cs p c h k (inl i) are is =
    let here : AreTablePlaces number b (methods t) ds =
    subst (λ (x : List ℕ). AreTablePlaces number x (methods t) ds) i.0 (subst (λ (x : Listing). AreTablePlaces number a (methods x) ds) i.1 h.0) in
    let placed : AllZip (IsPlaced codes) (methods t) ds = subst (λ (x : Listing). AllZip (IsPlaced codes) (methods x) ds) i.1 k.0 in
    let same : ds ≡ map (in_table number) cs = same_but_numbers other number b t cs ds are here in
    let now : IsIn (methods t) ds p (in_table number c) =
    subst (λ (x : List CodePlace). IsIn (methods t) x p (in_table number c)) (sym same) (numbered_in number (methods t) cs p c is) in
    record { number = number; placed = placed_in codes (methods t) ds p (in_table number c) placed now }
code_placed codes number other (a ∷ bs) (s ∷ ss) (ds ∷ css) b t cs p c h k (inr i) are is =
    code_placed codes (suc number) other bs ss css b t cs p c h.1 k.1 i are is

-- ---- listings in two orders

module _ (depth : ℕ) (dsdt : List ℕ) where
  alone_at : (first : Listing) (bs : List (List ℕ)) (ts : List Listing) (b : List ℕ) (t : Listing) → AreAlone depth dsdt first bs ts → HasListing bs ts b t
      → Among bs b × AreSingleListings depth dsdt b first t
  alone_at first [] ts b t h i = absurd i
  alone_at first (a ∷ bs) [] b t h i = absurd i
  alone_at first (a ∷ bs) (s ∷ ss) b t h (inl i) =
      (inl i.0, subst (λ (x : List ℕ). AreSingleListings depth dsdt x first t) i.0 (subst (λ (x : Listing). AreSingleListings depth dsdt a first x) i.1 h.0))
  alone_at first (a ∷ bs) (s ∷ ss) b t h (inr i) = let r = alone_at first bs ss b t h.1 i in (inr r.0, r.1)

  listing_at : (first : Listing) (bs : List (List ℕ)) (ts : List Listing) (b : List ℕ) → AreAlone depth dsdt first bs ts → Among bs b
      → (t : Listing) × HasListing bs ts b t × AreSingleListings depth dsdt b first t
  listing_at first [] ts b h i = absurd i
  listing_at first (a ∷ bs) [] b h i = absurd h
  listing_at first (a ∷ bs) (s ∷ ss) b h (inl i) = (s, inl (i, refl), subst (λ (x : List ℕ). AreSingleListings depth dsdt x first s) i h.0)
  listing_at first (a ∷ bs) (s ∷ ss) b h (inr i) = let r = listing_at first bs ss b h.1 i in (r.0, inr r.1, r.2)

  first_is : (f g t u : Listing) → f ∷ t ∷ [] ≡ g ∷ u ∷ [] → f ≡ g
  first_is f g t u e = cc

  second_is : (f g t u : Listing) → f ∷ t ∷ [] ≡ g ∷ u ∷ [] → t ≡ u
  second_is f g t u e = cc

  module _ (bs cs : List (List ℕ)) (order : IsPermutation bs cs) (f g : Listing) (ts us : List Listing) (alone : AreAlone depth dsdt f bs ts) (others : AreAlone depth dsdt g cs us) where
    both_listed : (b : List ℕ) (t : Listing) → Among bs b → AreSingleListings depth dsdt b f t → (u : Listing) × HasListing cs us b u × (f ≡ g) × (t ≡ u)
    both_listed b t m h =
        let r = listing_at g cs us b others (among_in_any_order bs cs order b m) in
        let same = same_listings depth 0 predefined (dsdt ∷ b ∷ []) (f ∷ t ∷ []) (g ∷ r.0 ∷ []) h r.2 in
        (r.0, r.1, first_is f g t r.0 same, second_is f g t r.0 same)

    listed_ssdt : (b : List ℕ) (t : Listing) → HasListing bs ts b t → HasListing cs us b t
    listed_ssdt b t i =
        let a = alone_at f bs ts b t alone i in
        let r = both_listed b t a.0 a.1 in
        subst (λ (x : Listing). HasListing cs us b x) (sym r.3) r.1

  same_dsdt : (bs cs : List (List ℕ)) → bs ≢ [] → IsPermutation bs cs → (f g : Listing) (ts us : List Listing) → AreAlone depth dsdt f bs ts → AreAlone depth dsdt g cs us → f ≡ g
  same_dsdt [] cs some order f g ts us alone others = absurd (some refl)
  same_dsdt (b ∷ bs) cs some order f g [] us alone others = absurd alone
  same_dsdt (b ∷ bs) cs some order f g (t ∷ ts) us alone others = (both_listed (b ∷ bs) cs order f g (t ∷ ts) us alone others b t (inl refl) alone.0).2

  listed_table : (bs cs : List (List ℕ)) → bs ≢ [] → IsPermutation bs cs → (f g : Listing) (ts us : List Listing) → AreAlone depth dsdt f bs ts → AreAlone depth dsdt g cs us
      → (b : List ℕ) (t : Listing) → HasListing (dsdt ∷ bs) (f ∷ ts) b t → HasListing (dsdt ∷ cs) (g ∷ us) b t
  listed_table bs cs some order f g ts us alone others b t (inl i) = inl (i.0, sym (same_dsdt bs cs some order f g ts us alone others) ∙ i.1)
  listed_table bs cs some order f g ts us alone others b t (inr i) = inr (listed_ssdt bs cs order f g ts us alone others b t i)

  -- ---- codes in two orders

  code_there : (bs cs : List (List ℕ)) → bs ≢ [] → cs ≢ [] → IsPermutation bs cs → IsIndependent depth dsdt bs → IsIndependent depth dsdt cs
      → (codes others : Lookup CodePlace) → AreCodePlaces depth (dsdt ∷ bs) codes → AreCodePlaces depth (dsdt ∷ cs) others
      → (p : List Segment) (c : CodePlace) → codes p ≡ Some c → IsPlacedAs others p c
  code_there bs cs some more order free free' codes others h k p c e =
      let a = listed_alone depth dsdt bs some free in
      let d = listed_alone depth dsdt cs more free' in
      let ts : h.placements ≡ a.0 ∷ a.1 = same_listings depth 0 predefined (dsdt ∷ bs) h.placements (a.0 ∷ a.1) h.listings a.3 in
      let us : k.placements ≡ d.0 ∷ d.1 = same_listings depth 0 predefined (dsdt ∷ cs) k.placements (d.0 ∷ d.1) k.listings d.3 in
      let found : IsCodeIn (dsdt ∷ bs) (a.0 ∷ a.1) p c =
      subst (λ (x : List Listing). IsCodeIn (dsdt ∷ bs) x p c) ts (code_found 0 (dsdt ∷ bs) h.placements h.codes p c h.are (sym (ap (λ (l : Lookup CodePlace). l p) h.by_paths) ∙ e)) in
      let there : HasListing (dsdt ∷ cs) (d.0 ∷ d.1) found.bytes found.listing =
      listed_table bs cs some order a.0 d.0 a.1 d.1 a.2 d.2 found.bytes found.listing found.there in
      let here : HasListing (dsdt ∷ cs) k.placements found.bytes found.listing =
      subst (λ (x : List Listing). HasListing (dsdt ∷ cs) x found.bytes found.listing) (sym us) there in
      code_placed others 0 found.number (dsdt ∷ cs) k.placements k.codes found.bytes found.listing found.places p c k.are (each_is_placed depth (dsdt ∷ cs) others k) here found.are found.is

abbrev pub code_place_of : Option CodePlace → ℕ
code_place_of code = (unwrap_or code no_code).place

abbrev pub code_length_of : Option CodePlace → ℕ
code_length_of code = (unwrap_or code no_code).length

-- two places are the same but for the number of the table
pub record AreSamePlace (a b : Option CodePlace) : Type 0 where
  pub place : code_place_of a ≡ code_place_of b
  pub length : code_length_of a ≡ code_length_of b

module _ (codes others : Lookup CodePlace) (p : List Segment) (to : (c : CodePlace) → codes p ≡ Some c → IsPlacedAs others p c) (from : (c : CodePlace) → others p ≡ Some c → IsPlacedAs codes p c) where
  placed_alike : (a b : Option CodePlace) → codes p ≡ a → others p ≡ b → AreSamePlace (codes p) (others p)
  placed_alike (Some c) b e f =
      let r = to c e in
      let there : AreSamePlace (Some c) (Some (in_table r.number c)) = record { place = refl; length = refl } in
      subst (λ o. AreSamePlace o (others p)) (sym e) (subst (AreSamePlace (Some c)) (sym r.placed) there)
  placed_alike None (Some c) e f =
      let r = from c f in
      let never : None ≡ Some (in_table r.number c) = sym e ∙ r.placed in cc
  placed_alike None None e f =
      let there : AreSamePlace None None = record { place = refl; length = refl } in
      subst (λ o. AreSamePlace o (others p)) (sym e) (subst (AreSamePlace None) (sym f) there)

pub codes_in_any_order : (depth : ℕ) (dsdt : List ℕ) (ssdts given : List (List ℕ)) → AreReordered depth dsdt ssdts given → (codes others : Lookup CodePlace)
    → AreCodePlaces depth (dsdt ∷ ssdts) codes → AreCodePlaces depth (dsdt ∷ given) others → (p : List Segment) → AreSamePlace (codes p) (others p)
codes_in_any_order depth dsdt ssdts given h codes others k l p =
    let more = some_in_any_order depth dsdt ssdts given h.order h.some in
    let free = independent_in_any_order depth dsdt ssdts given h.order h.independent in
    placed_alike codes others p
    (λ c e. code_there depth dsdt ssdts given h.some more h.order h.independent free codes others k l p c e)
    (λ c e. code_there depth dsdt given ssdts more h.some (IsPermutation-sym ssdts given h.order) free h.independent others codes l k p c e)
    (codes p) (others p) refl refl
