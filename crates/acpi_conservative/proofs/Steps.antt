-- One state of the reading behind another, as the placements between them say: what Externals say, and where objects stand.
use Rattle.std.proofs.Common.{◌≡◌, ◌+◌, ℕ, false, List, [], ◌∷◌, ◌++◌, append_assoc, append-nil, Option, Some, refl, sym, ap, subst, ◌∙◌}
use Rattle.std.specs.FinMap as finite
use Rattle.std.specs.List.{AllZip}
use Rattle.acpi_name.specs.Names.{NameParts}
use Rattle.acpi_space.specs.Lookups.{Lookup, singleton, union}
use Rattle.acpi_space.specs.Spaces.{PathMap}
use Rattle.acpi_tree.specs.Objects.{ObjectTree, opens_scope}
use Rattle.acpi_declare.specs.Namespace.{Namespace}
use Rattle.acpi_declare.specs.Sites.{declares, Step, step, Site, site_in}
use Rattle.acpi_declare.specs.Placing.{IsDeclared, IsPlaced}
use Rattle.acpi_declare.specs.Listing.{Placement, object_by, object_of, objects_of, IsJustified}
use Rattle.acpi_declare.specs.Notes.{counts_by, external_counts}
use Rattle.acpi_pass.proofs.Unions.{union-nothing, union_assoc}
use Rattle.acpi_pass.proofs.Listings.{Inside, inside_now}
use Rattle.acpi_conditions.specs.Nodes.{Term}
use Rattle.acpi_conditions.specs.Entries.{Path, Entry}
use Rattle.acpi_survey.specs.Nodes.{term_at}
use Rattle.acpi_survey.specs.Reading.{Reading, declaring}
use Rattle.acpi_ranges.specs.Lookup.{Found}
use Rattle.acpi_conservative.specs.Parts.{DeclaredPart, declared_by, declared, IsPartOf}
use Rattle.acpi_conservative.proofs.Standing.{StandsIn, made, stands_behind, entries_behind}

-- ---- lists

objects_both : (es fs : List Placement) → objects_of (es ++ fs) ≡ union (objects_of es) (objects_of fs)
objects_both [] fs = refl
objects_both (e ∷ es) fs = ap (union (object_of e)) (objects_both es fs) ∙ sym (union_assoc (object_of e) (objects_of es) (objects_of fs))

counts_both : (es fs : List Placement) → external_counts (es ++ fs) ≡ union (external_counts es) (external_counts fs)
counts_both [] fs = refl
counts_both (e ∷ es) fs =
    let c : Lookup ℕ = counts_by e.step.effect e.scope e.step.name in
    ap (union c) (counts_both es fs) ∙ sym (union_assoc c (external_counts es) (external_counts fs))

declared_both : (es fs : List Placement) → declared (es ++ fs) ≡ declared es ++ declared fs
declared_both [] fs = refl
declared_both (e ∷ es) fs =
    let ds : List DeclaredPart = declared_by e.step.effect e.scope e.path in
    ap (λ (l : List DeclaredPart). ds ++ l) (declared_both es fs) ∙ sym (append_assoc ds (declared es) (declared fs))

pub both_zip : {X Y : Type 0} (R : X → Y → Type 0) (xs us : List X) (ys vs : List Y) → AllZip R xs ys → AllZip R us vs → AllZip R (xs ++ us) (ys ++ vs)
both_zip R [] us [] vs h k = k
both_zip R [] us (y ∷ ys) vs h k = absurd h
both_zip R (x ∷ xs) us [] vs h k = absurd h
both_zip R (x ∷ xs) us (y ∷ ys) vs h k = (h.0, both_zip R xs us ys vs h.1 k)

pub none_justified : (objects : Namespace) (before : List Path) (es : List Placement) → IsJustified objects before [] es → es ≡ []
none_justified objects before [] j = refl
none_justified objects before (e ∷ es) j = absurd j

-- ---- one state behind another

-- the entry is the object's, and stands where the search finds its part
pub record IsObjectAt (look : ℕ → Option Found) (base : ℕ) (d : DeclaredPart) (e : Entry) : Type 0 where
  pub scope : e.scope ≡ d.scope
  pub path : e.path ≡ d.path
  pub place : ℕ
  pub stands : e.term.place ≡ base + place
  pub part : Found
  pub found : look place ≡ Some part
  pub is_part : IsPartOf d.object d.links d.code part

abbrev pub HaveEntries : (look : ℕ → Option Found) → (base : ℕ) → List DeclaredPart → List Entry → Type 0
HaveEntries look base = AllZip (IsObjectAt look base)

-- The state follows another by these placements: where it stands, what the Externals so far say, and the entries behind those before,
-- one for each object, in their order.
pub record Follows (look : ℕ → Option Found) (objects : Namespace) (around : Path) (s s' : Reading) (es : List Placement) : Type 0 where
  pub stands : StandsIn (union objects (objects_of es)) around s'
  pub heard : finite.get s'.expected ≡ union (finite.get s.expected) (external_counts es)
  pub base : s'.base ≡ s.base
  pub news : List Entry
  pub entries : s'.walk.entries ≡ s.walk.entries ++ news
  pub objects_there : HaveEntries look s.base (declared es) news

-- what changes nothing of these
pub stays : (look : ℕ → Option Found) (objects : Namespace) (around : Path) (s s' : Reading) → StandsIn objects around s' → s'.expected ≡ s.expected → s'.base ≡ s.base → s'.walk.entries ≡ s.walk.entries
    → Follows look objects around s s' []
stays look objects around s s' h expected base entries = record {
  stands = subst (λ (m : Namespace). StandsIn m around s') (sym (union-nothing objects)) h;
  heard = ap finite.get expected ∙ sym (union-nothing (finite.get s.expected));
  base = base;
  news = [];
  entries = entries ∙ sym (append-nil s.walk.entries);
  objects_there = tt;
}

-- one after another
pub both_follow : (look : ℕ → Option Found) (objects : Namespace) (around : Path) (s m s' : Reading) (es fs : List Placement) → Follows look objects around s m es
    → Follows look (union objects (objects_of es)) around m s' fs → Follows look objects around s s' (es ++ fs)
both_follow look objects around s m s' es fs f g = record {
  stands = subst (λ (o : Namespace). StandsIn o around s') (union_assoc objects (objects_of es) (objects_of fs) ∙ ap (union objects) (sym (objects_both es fs))) g.stands;
  heard =
      g.heard
      ∙ ap (λ (c : Lookup ℕ). union c (external_counts fs)) f.heard
      ∙ union_assoc (finite.get s.expected) (external_counts es) (external_counts fs)
      ∙ ap (union (finite.get s.expected)) (sym (counts_both es fs));
  base = g.base ∙ f.base;
  news = f.news ++ g.news;
  entries = g.entries ∙ ap (λ (l : List Entry). l ++ g.news) f.entries ∙ append_assoc s.walk.entries f.news g.news;
  objects_there = subst (λ (ds : List DeclaredPart). HaveEntries look s.base ds (f.news ++ g.news)) (sym (declared_both es fs))
      (both_zip (IsObjectAt look s.base) (declared es) (declared fs) f.news g.news f.objects_there (subst (λ (b : ℕ). HaveEntries look b (declared fs) g.news) f.base g.objects_there));
}

-- ---- one site

abbrev pub placement : Step → Path → Path → Placement
placement x s p = record { step = x; scope = s; path = p }

-- its placement is in the scope
pub by_site : (objects : Namespace) (before : List Path) (inside : Option ℕ) (around : Path) → Inside before inside around → (x : Step) (ys : List Site) (Goal : List Placement → Type 0)
    → ((p : Path) → IsPlaced x.effect objects around x.name p → (es : List Placement) → IsJustified (union objects (object_by x.effect p)) (before ++ p ∷ []) ys es → Goal (placement x around p ∷ es))
    → (es : List Placement) → IsJustified objects before (site_in inside x ∷ ys) es → Goal es
by_site objects before inside around at x ys Goal f [] j = absurd j
by_site objects before inside around at x ys Goal f (e ∷ es) j =
    let in_scope : e.scope ≡ around = j.1 ∙ inside_now before inside around at in
    let is : e ≡ placement x around e.path = λ i. record { step = j.0 i; scope = in_scope i; path = e.path } in
    subst (λ (d : Placement). Goal (d ∷ es)) (sym is)
    (f e.path (subst (λ (d : Placement). IsPlaced d.step.effect objects d.scope d.step.name d.path) is j.2) es
    (subst (λ (d : Placement). IsJustified (union objects (object_of d)) (before ++ d.path ∷ []) ys es) is j.3))

-- .. and nothing stands behind it
pub by_one : (objects : Namespace) (before : List Path) (inside : Option ℕ) (around : Path) → Inside before inside around → (x : Step) (Goal : List Placement → Type 0)
    → ((p : Path) → IsPlaced x.effect objects around x.name p → Goal (placement x around p ∷ []))
    → (es : List Placement) → IsJustified objects before (site_in inside x ∷ []) es → Goal es
by_one objects before inside around at x Goal f es j =
    by_site objects before inside around at x [] Goal
    (λ p placed fs k. subst (λ (l : List Placement). Goal (placement x around p ∷ l)) (sym (none_justified (union objects (object_by x.effect p)) (before ++ p ∷ []) fs k)) (f p placed)) es j

-- ---- a term that declares

module _ (look : ℕ → Option Found) (objects : Namespace) (around : Path) (s : Reading) (h : StandsIn objects around s) (place : ℕ) (n : NameParts) where
  -- whose part is found at its place
  pub term_follows : (o : ObjectTree) (links : List NameParts) (code : Option (List ℕ)) (t : Term) → t ≡ term_at (s.base + place) n false [] → opens_scope o ≡ false
      → (c : Option ℕ) (p : Path) → IsDeclared objects around n p
      → (part : Found) → look place ≡ Some part → IsPartOf o links code part
      → Follows look objects around s (declaring t c s) (placement (step n (declares o links code)) around p ∷ [])
  term_follows o links code t t_is alone c p d part found is_part =
      let u : Term = term_at (s.base + place) n false [] in
      let en : Entry = made objects around s h o (s.base + place) n false alone p d in
      subst (λ (t : Term). Follows look objects around s (declaring t c s) (placement (step n (declares o links code)) around p ∷ [])) (sym t_is) (record {
        stands = subst (λ (m : Namespace). StandsIn m around (declaring u c s)) (ap (union objects) (sym (union-nothing (singleton p o)))) (stands_behind objects around s h o (s.base + place) n false alone p d c);
        heard = sym (union-nothing (finite.get s.expected));
        base = refl;
        news = en ∷ [];
        entries = entries_behind objects around s h o (s.base + place) n false alone p d c;
        objects_there = (record { scope = h.scope_is; path = refl; place = place; stands = refl; part = part; found = found; is_part = is_part }, tt);
      })

pub no_names : (place : ℕ) (n : NameParts) (names : List NameParts) → names ≡ [] → term_at place n false names ≡ term_at place n false []
no_names place n names none = ap (term_at place n false) none

-- ---- other starts and ends

module _ (look : ℕ → Option Found) (objects : Namespace) (around : Path) (es : List Placement) where
  pub same_start : (s m s' : Reading) → m.expected ≡ s.expected → m.base ≡ s.base → m.walk.entries ≡ s.walk.entries → Follows look objects around m s' es → Follows look objects around s s' es
  same_start s m s' expected base entries f = record {
    stands = f.stands;
    heard = f.heard ∙ ap (λ (x : PathMap ℕ). union (finite.get x) (external_counts es)) expected;
    base = f.base ∙ base;
    news = f.news;
    entries = f.entries ∙ ap (λ (l : List Entry). l ++ f.news) entries;
    objects_there = subst (λ (b : ℕ). HaveEntries look b (declared es) f.news) base f.objects_there;
  }

  pub same_end : (s m s' : Reading) → StandsIn (union objects (objects_of es)) around s' → s'.expected ≡ m.expected → s'.base ≡ m.base → s'.walk.entries ≡ m.walk.entries
      → Follows look objects around s m es → Follows look objects around s s' es
  same_end s m s' h expected base entries f = record {
    stands = h;
    heard = ap finite.get expected ∙ f.heard;
    base = base ∙ f.base;
    news = f.news;
    entries = entries ∙ f.entries;
    objects_there = f.objects_there;
  }
