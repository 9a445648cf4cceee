-- The reading of strict items follows their listing: what their Externals say, and where their objects stand.
use Rattle.std.proofs.Common.{◌≡◌, ◌==◌, ◌&&◌, ◌+◌, ◌-◌, ◌^◌, ◌%◌, ◌≤◌, min, ℕ, suc, nat_le, Bool, true, false, true≢false, cond, List, [], ◌∷◌, ◌++◌, append_assoc, append-nil, map, length, length-append, Option, Some, None, is_ok, inl, inr, refl, sym, ap, subst, ◌∙◌, arith}
use Rattle.std.specs.FinMap as finite
use Rattle.std.proofs.Math.Nat.{min-eq_left, min-eq_right, zero-min}
use Rattle.std.proofs.lemmas.Bool.{le-leb, eq-eqb, ne_eqb}
use Rattle.std.proofs.lemmas.Bool.Decides.{leb_tells}
use Rattle.std.proofs.lemmas.List.{drop_all, map-append}
use Rattle.acpi_name.specs.Names.{Segment, NameParts}
use Rattle.acpi_name.specs.Paths.{place_of}
use Rattle.acpi_space.specs.Lookups.{nothing, singleton, union}
use Rattle.acpi_space.specs.Spaces.{PathMap}
use Rattle.acpi_tree.specs.declared.object.FieldForm.{FieldForm}
use Rattle.acpi_tree.specs.declared.tree.Int.TheVariants.{Zero}
use Rattle.acpi_tree.specs.declared.place.NamedForm.{NamedForm}
use Rattle.acpi_tree.specs.declared.place.NamedForm.TheVariants as named
use Rattle.acpi_tree.specs.declared.place.UnitsForm.TheVariants as fields
use Rattle.acpi_tree.specs.Tree.{ExternalParts, FieldTree, unit, reserved, access, connect_name, connect_buffer, extended}
use Rattle.acpi_tree.specs.declared.tree.ScopeKind.TheVariants as kinds
use Rattle.acpi_tree.specs.Tree.{ItemTree, name, scope, method, external, external_block, create, create_field, mutex, event, region, field, index_field, bank_field, ItemTrees, no_items, item}
use Rattle.acpi_tree.specs.Offsets.{element_bits}
use Rattle.acpi_tree.specs.Objects.{ObjectTree, opens_scope, name_object, method_object, device_object, processor_object, power_object, thermal_object, region_object, mutex_object, event_object, field_object, create_object, create_field_object}
use Rattle.acpi_tree.specs.Terms as terms
use Rattle.acpi_tree.specs.Terms.{TermTrees, declare, no_terms, more, raw}
use Rattle.acpi_terms.specs.Spelling.{SpellsExternal}
use Rattle.acpi_declare.specs.Namespace.{Namespace}
use Rattle.acpi_declare.specs.Sites.{declares, opens, expects, declares_alone, Step, step, unit_name, unit_steps, external_step, external_steps, Site, site_in, item_sites, items_sites}
use Rattle.acpi_declare.specs.Placing.{IsDeclared, IsOpened}
use Rattle.acpi_declare.specs.Listing.{Placement, objects_of, IsJustified, paths_of}
use Rattle.acpi_declare.specs.Notes.{count_at}
use Rattle.acpi_pass.proofs.Unions.{union-nothing, union_assoc, counts_with_first}
use Rattle.acpi_pass.proofs.Listings.{Inside, length-paths, length-justified, inside_later, inside_newest}
use Rattle.acpi_outline.specs.declared.form.ContainerForm.{ContainerForm}
use Rattle.acpi_outline.specs.declared.form.ContainerForm.TheVariants as containers
use Rattle.acpi_outline.specs.Nodes as outline
use Rattle.acpi_outline.specs.Nodes.{FixedTree, container, if_so, units, FieldNodes, field_node, NodeTree, plain, holds, holds_fields, closed, NodeTrees, no_more, node}
use Rattle.acpi_outline.specs.Rules.{after, after_all, after_fields}
use Rattle.acpi_outline.specs.Outline.{bits_behind, AreFields, IsNode, AreNodes}
use Rattle.acpi_outline.specs.Tiling.{TilesFields, TilesInside, Tiles}
use Rattle.acpi_tree.specs.DataTerms.{data_term}
use Rattle.acpi_conservative.specs.StrictNodes.{AreExternals, AreFieldsOf, IsItem, AreItems}
use Rattle.acpi_conditions.specs.Entries.{Path, Entry}
use Rattle.acpi_conditions.specs.Walk as walks
use Rattle.acpi_conditions.specs.Walk.{Walk, enter_first}
use Rattle.acpi_needs.specs.Needs.{names_in_all, names_before}
use Rattle.acpi_survey.specs.Nodes.{term_at, unit_at, operands_of}
use Rattle.acpi_survey.specs.NameUses.{names_used_in_plain}
use Rattle.acpi_survey.specs.declared.name_uses.NameUse.TheVariants.{Call}
use Rattle.acpi_survey.specs.Reading.{Reading, survey_rules, with_expected, noticing, begin_fields, expecting, after_field, enter, leave}
use Rattle.acpi_ranges.specs.Ranges.{first_place, first_field_place}
use Rattle.acpi_ranges.specs.Lookup.{Found, node_found, element_found}
use Rattle.acpi_ranges.specs.steps.Search.{search_fields}
use Rattle.acpi_conservative.specs.Parts.{IsTerm, IsPackage, before_fields, IsPartOf}
use Rattle.acpi_conservative.proofs.Items.{Parts, parts}
use Rattle.acpi_conservative.proofs.TableNodes.{data_none, externals_walked}
use Rattle.acpi_ranges.proofs.PartLookups.{element_within, FindsParts, FindsNode, finds_node, finds_rest}
use Rattle.acpi_conservative.proofs.Standing.{StandsIn, stands_on, entries_left, made, allowed, stands_inside, entries_inside, stands_left, opened, stands_in_scope, entries_in_scope, stands_out_of_scope}
use Rattle.acpi_conservative.proofs.Steps.{Follows, none_justified, stays, both_follow, placement, by_site, by_one, term_follows, no_names, same_start, same_end}

-- ---- field lists

-- the elements are found at their places
abbrev FindsFields : (look : ℕ → Option Found) → (end : ℕ) → FixedTree → FieldNodes → Type 0
FindsFields look end f us = (p : ℕ) (x : Found) → search_fields p end f us ≡ Some x → look p ≡ Some x

module _ (look : ℕ → Option Found) (end start stop : ℕ) (f : FixedTree) (place first_bit : ℕ) (e : FieldTree) (us : FieldNodes) (t : TilesFields start stop (field_node place first_bit e us))
    (finds : FindsFields look end f (field_node place first_bit e us)) where
  abbrev element : Bool → ℕ → Option Found
  element b p = cond b (Some (element_found (first_field_place end us) f first_bit e)) (search_fields p end f us)

  finds_field : look place ≡ Some (element_found (first_field_place end us) f first_bit e)
  finds_field = finds place (element_found (first_field_place end us) f first_bit e) (ap (λ b. element b place) (eq-eqb place place refl))

  finds_fields : FindsFields look end f us
  finds_fields p x is =
      let r = element_within p end f t.0 stop us t.4 x is in
      finds p x (ap (λ b. element b p) (ne_eqb place p (λ same. omega (arith, same, r.0, t.1, t.2))) ∙ is)

-- the offset as the survey counts it
abbrev counted : ℕ → ℕ
counted offset = min offset (2 ^ 64 - 1)

two_mins : (a w m : ℕ) → min (min a m + w) m ≡ min (a + w) m
two_mins a w m = elim (leb_tells a m) [
  | inl t ↦ ap (λ k. min (k + w) m) (min-eq_left t.1)
  | inr f ↦ ap (λ k. min (k + w) m) (min-eq_right (omega (arith, f.1))) ∙ min-eq_right (omega arith) ∙ sym (min-eq_right (omega (arith, f.1)))
]

counted_behind : (offset : ℕ) (e : FieldTree) → bits_behind (counted offset) e ≡ counted (offset + element_bits e)
counted_behind offset (unit g bits) = two_mins offset bits (2 ^ 64 - 1)
counted_behind offset (reserved bits) = two_mins offset bits (2 ^ 64 - 1)
counted_behind offset (access kind attribute) = two_mins offset 0 (2 ^ 64 - 1)
counted_behind offset (connect_name n) = two_mins offset 0 (2 ^ 64 - 1)
counted_behind offset (connect_buffer size bytes) = two_mins offset 0 (2 ^ 64 - 1)
counted_behind offset (extended kind attribute count) = two_mins offset 0 (2 ^ 64 - 1)

-- wherever they are read, the states follow by their placements
abbrev FieldsFollow : (look : ℕ → Option Found) → FixedTree → FieldForm → (flags : ℕ) → List NameParts → (offset : ℕ) → List FieldTree → FieldNodes → Type 0
FieldsFollow look f form flags links offset es us = (objects : Namespace) (before : List Path) (inside : Option ℕ) (around : Path) → Inside before inside around → (ps : List Placement)
    → IsJustified objects before (map (site_in inside) (unit_steps form flags links offset es)) ps → (end start stop last : ℕ) → TilesFields start stop us → FindsFields look end f us
    → (bytes : List ℕ) → AreFields last (counted offset) us bytes → (s : Reading) → StandsIn objects around s → Follows look objects around s (after_fields survey_rules s f us) ps

fields_follow : (look : ℕ → Option Found) (f : FixedTree) → names_in_all (operands_of f) ≡ [] → (form : FieldForm) (flags : ℕ) (links : List NameParts) → f ≡ before_fields form flags links
    → (offset : ℕ) (es : List FieldTree) (us : FieldNodes) → AreFieldsOf es us → FieldsFollow look f form flags links offset es us
fields_follow look f none form flags links same offset [] us is objects before inside around at ps j end start stop last tiles finds bytes are s h =
    subst (λ (us : FieldNodes). Follows look objects around s (after_fields survey_rules s f us) ps) (sym is)
    (subst (Follows look objects around s s) (sym (none_justified objects before ps j)) (stays look objects around s s h refl refl refl))
fields_follow look f none form flags links same offset (e ∷ es) us (place, first_bit, rest, is, hs) objects before inside around at ps j end start stop last tiles finds bytes are s h =
    subst (λ (us : FieldNodes). Follows look objects around s (after_fields survey_rules s f us) ps) (sym is)
    (one_field e j (subst (λ (us : FieldNodes). TilesFields start stop us) is tiles) (subst (λ (us : FieldNodes). FindsFields look end f us) is finds)
    (subst (λ (us : FieldNodes). AreFields last (counted offset) us bytes) is are)
    (λ next objects before inside around at ps j end start stop last tiles finds bytes are s h.
    fields_follow look f none form flags links same next es rest hs objects before inside around at ps j end start stop last tiles finds bytes are s h))
  where
    one_field : (e : FieldTree) → IsJustified objects before (map (site_in inside) (unit_steps form flags links offset (e ∷ es))) ps → TilesFields start stop (field_node place first_bit e rest)
        → FindsFields look end f (field_node place first_bit e rest) → AreFields last (counted offset) (field_node place first_bit e rest) bytes → ((next : ℕ) → FieldsFollow look f form flags links next es rest)
        → Follows look objects around s (after_fields survey_rules s f (field_node place first_bit e rest)) ps
    one_field (unit g bits) j tiles finds are behind =
        let o : ObjectTree = field_object form flags offset bits in
        let m : Reading = after_field s place f (unit g bits) in
        let next : ℕ = offset + element_bits (unit g bits) in
        let x : Step = step (unit_name g) (declares o links None) in
        let part : Found = element_found (first_field_place end rest) f first_bit (unit g bits) in
        let later : AreFields last (counted next) rest are.1 = subst (λ (k : ℕ). AreFields last k rest are.1) (counted_behind offset (unit g bits)) are.5 in
        by_site objects before inside around at x (map (site_in inside) (unit_steps form flags links next es)) (Follows look objects around s (after_fields survey_rules m f rest))
        (λ p d fs k.
        let here : Follows look objects around s m (placement x around p ∷ []) =
        term_follows look objects around s h place (unit_name g) o links None (unit_at (s.base + place) g (operands_of f)) (no_names (s.base + place) (unit_name g) (names_in_all (operands_of f)) none) refl (Some 0) p d
        part (finds_field look end start stop f place first_bit (unit g bits) rest tiles finds) (first_field_place end rest, g, (λ i. element_found (first_field_place end rest) (same i) (are.3 i) (unit g bits))) in
        both_follow look objects around s m (after_fields survey_rules m f rest) (placement x around p ∷ []) fs here
        (behind next (union objects (objects_of (placement x around p ∷ []))) (before ++ p ∷ []) inside around (inside_later before (p ∷ []) inside around at) fs
        (subst (λ (l : Namespace). IsJustified (union objects l) (before ++ p ∷ []) (map (site_in inside) (unit_steps form flags links next es)) fs) (sym (union-nothing (singleton p o))) k)
        end tiles.0 stop last tiles.4 (finds_fields look end start stop f place first_bit (unit g bits) rest tiles finds) are.1 later m here.stands))
        ps j
    one_field e j tiles finds are behind =
        let m : Reading = after_field s place f e in
        let next : ℕ = offset + element_bits e in
        let later : AreFields last (counted next) rest are.1 = subst (λ (k : ℕ). AreFields last k rest are.1) (counted_behind offset e) are.5 in
        same_start look objects around ps s m (after_fields survey_rules m f rest) refl refl refl
        (behind next objects before inside around at ps j end tiles.0 stop last tiles.4 (finds_fields look end start stop f place first_bit e rest tiles finds) are.1 later m (stands_on objects around s m refl refl h))

-- ---- Externals

-- an External takes seven arguments at most
few : (x : ExternalParts) (bytes : List ℕ) → SpellsExternal x bytes → x.args ≤ 7
few x bytes h = h.1.3.3.2.0

heard_at : (m : PathMap ℕ) (c : ℕ) (gs : List Segment) (o : Option Path) → finite.get (with_expected m c gs o) ≡ union (finite.get m) (union (count_at c gs o) nothing)
heard_at m c [] o = sym (union-nothing (finite.get m))
heard_at m c (g ∷ gs) None = sym (union-nothing (finite.get m))
heard_at m c (g ∷ gs) (Some p) = counts_with_first m p c ∙ ap (union (finite.get m)) (sym (union-nothing (singleton p c)))

-- what the Externals say with one more
abbrev expected_more : ExternalParts → Reading → PathMap ℕ
expected_more x s = with_expected s.expected x.args x.name.segments (place_of s.walk.around.scope x.name)

external_follows : (look : ℕ → Option Found) (objects : Namespace) (before : List Path) (inside : Option ℕ) (around : Path) → Inside before inside around → (x : ExternalParts) → x.args ≤ 7 → (es : List Placement)
    → IsJustified objects before (map (site_in inside) (external_step x)) es → (s : Reading) → StandsIn objects around s → Follows look objects around s (expecting x s) es
external_follows look objects before inside around at x small es j s h = by (x.kind == 8) refl j
  where
    there : StandsIn objects around (expecting x s)
    there = stands_on objects around s (expecting x s) refl refl h

    by : (b : Bool) → (x.kind == 8) ≡ b → IsJustified objects before (map (site_in inside) (cond b (step x.name (expects x.args) ∷ []) [])) es → Follows look objects around s (expecting x s) es
    by false is j =
        subst (Follows look objects around s (expecting x s)) (sym (none_justified objects before es j))
        (stays look objects around s (expecting x s) there (ap (λ b. cond (b && nat_le x.args 7) (expected_more x s) s.expected) is) refl refl)
    by true is j =
        by_one objects before inside around at (step x.name (expects x.args)) (Follows look objects around s (expecting x s))
        (λ p placed. record {
          stands = subst (λ (m : Namespace). StandsIn m around (expecting x s)) (sym (union-nothing objects)) there;
          heard =
              ap (λ b. finite.get (cond b (expected_more x s) s.expected)) (ap (λ b. b && nat_le x.args 7) is ∙ le-leb x.args 7 small)
              ∙ heard_at s.expected x.args x.name.segments (place_of s.walk.around.scope x.name)
              ∙ ap (λ (q : Path). union (finite.get s.expected) (union (count_at x.args x.name.segments (place_of q x.name)) nothing)) h.scope_is;
          base = refl;
          news = [];
          entries = sym (append-nil s.walk.entries);
          objects_there = tt;
        }) es j

externals_follow : (look : ℕ → Option Found) (xs : List ExternalParts) (ms : NodeTrees) → AreExternals xs ms
    → (objects : Namespace) (before : List Path) (inside : Option ℕ) (around : Path) → Inside before inside around → (es : List Placement)
    → IsJustified objects before (map (site_in inside) (external_steps xs)) es → (level end : ℕ) (s : Reading) (bytes : List ℕ) → AreNodes survey_rules level end s ms bytes
    → StandsIn objects around s → Follows look objects around s (after_all survey_rules s ms) es
externals_follow look [] ms is objects before inside around at es j level end s bytes are h =
    subst (λ (ms : NodeTrees). Follows look objects around s (after_all survey_rules s ms) es) (sym is)
    (subst (Follows look objects around s s) (sym (none_justified objects before es j)) (stays look objects around s s h refl refl refl))
externals_follow look (x ∷ xs) ms (place, ns, is, hs) objects before inside around at es j level end s bytes are h =
    subst (λ (ms : NodeTrees). Follows look objects around s (after_all survey_rules s ms) es) (sym is)
    (one (subst (λ (ms : NodeTrees). AreNodes survey_rules level end s ms bytes) is are)
    (λ objects before at es j s bytes are h. externals_follow look xs ns hs objects before inside around at es j level end s bytes are h))
  where
    one : AreNodes survey_rules level end s (node place (plain (outline.external x)) ns) bytes
        → ((objects : Namespace) (before : List Path) → Inside before inside around → (es : List Placement) → IsJustified objects before (map (site_in inside) (external_steps xs)) es → (s : Reading) (bytes : List ℕ)
        → AreNodes survey_rules level end s ns bytes → StandsIn objects around s → Follows look objects around s (after_all survey_rules s ns) es)
        → Follows look objects around s (after_all survey_rules (expecting x s) ns) es
    one are later =
        let m : Reading = expecting x s in
        let r : Parts objects before (map (site_in inside) (external_step x)) (map (site_in inside) (external_steps xs)) es =
        parts objects before (map (site_in inside) (external_step x)) (map (site_in inside) (external_steps xs)) es
        (subst (λ (l : List Site). IsJustified objects before l es) (map-append (site_in inside) (external_step x) (external_steps xs)) j) in
        let f : Follows look objects around s m r.front = external_follows look objects before inside around at x (few x are.0 are.5.spells) r.front r.justified_front s h in
        let g : Follows look (union objects (objects_of r.front)) around m (after_all survey_rules m ns) r.back =
        later (union objects (objects_of r.front)) (before ++ paths_of r.front) (inside_later before (paths_of r.front) inside around at) r.back r.justified_back m are.1 are.6 f.stands in
        subst (Follows look objects around s (after_all survey_rules m ns)) (sym r.whole) (both_follow look objects around s m (after_all survey_rules m ns) r.front r.back f g)

-- an If in which nothing is declared
first_left : (q : ℕ) (w : Walk) → (walks.leave (enter_first q w)).known ≡ w.known
first_left q w = λ i. record w.known {
  entries = (ap (λ (es : List Entry). w.known.entries ++ es) (drop_all (length w.entries) w.entries (omega arith)) ∙ append-nil w.known.entries) i;
}

-- ---- items

-- wherever an item's node is read, its states follow by its placements
abbrev ItemFollows : ItemTree → NodeTree → Type 0
ItemFollows i n = (look : ℕ → Option Found) (objects : Namespace) (before : List Path) (inside : Option ℕ) (around : Path) → Inside before inside around → (es : List Placement)
    → IsJustified objects before (item_sites (length before) inside i) es
    → (level place end to stop : ℕ) (s : Reading) (bytes : List ℕ) → IsNode survey_rules level place end s n bytes → TilesInside place stop n → FindsNode look place to n
    → StandsIn objects around s → Follows look objects around s (after survey_rules place s n) es

abbrev pub AllFollow : ItemTrees → NodeTrees → Type 0
AllFollow is ns = (look : ℕ → Option Found) (objects : Namespace) (before : List Path) (inside : Option ℕ) (around : Path) → Inside before inside around → (es : List Placement)
    → IsJustified objects before (items_sites (length before) inside is) es
    → (level end to start stop : ℕ) (s : Reading) (bytes : List ℕ) → AreNodes survey_rules level end s ns bytes → Tiles start stop ns → FindsParts look to ns
    → StandsIn objects around s → Follows look objects around s (after_all survey_rules s ns) es

declaration_follows : (i : ItemTree) (form : NamedForm) (bs : TermTrees) (n : NameParts) (vs : TermTrees) → names_before bs ++ names_in_all vs ≡ [] → (o : ObjectTree) → opens_scope o ≡ false → (links : List NameParts)
    → ((part : Found) → IsTerm form bs vs part → IsPartOf o links None part)
    → ((k : ℕ) (inside : Option ℕ) → item_sites k inside i ≡ site_in inside (step n (declares o links None)) ∷ []) → ItemFollows i (plain (outline.term (declare form bs n vs)))
declaration_follows i form bs n vs none o alone links is_part sites_are look objects before inside around at es j level place end to stop s bytes is_node tiles finds h =
    let m : Reading = noticing (s.base + place) (names_used_in_plain Call (outline.term (declare form bs n vs))) s in
    by_one objects before inside around at (step n (declares o links None)) (Follows look objects around s (after survey_rules place s (plain (outline.term (declare form bs n vs)))))
    (λ p d. same_start look objects around (placement (step n (declares o links None)) around p ∷ []) s m (after survey_rules place s (plain (outline.term (declare form bs n vs)))) refl refl refl
    (term_follows look objects around m (stands_on objects around s m refl refl h) place n o links None (term_at (s.base + place) n false (names_before bs ++ names_in_all vs)) (no_names (s.base + place) n (names_before bs ++ names_in_all vs) none) alone
    (Some 0) p d (node_found to (plain (outline.term (declare form bs n vs)))) finds.itself (is_part (node_found to (plain (outline.term (declare form bs n vs)))) (to, n, refl))))
    es (subst (λ (xs : List Site). IsJustified objects before xs es) (sites_are (length before) inside) j)

method_follows : (n : NameParts) (flags : ℕ) (code : List ℕ) → ItemFollows (method n flags code) (closed (outline.method n flags) code)
method_follows n flags code look objects before inside around at es j level place end to stop s bytes is_node tiles finds h =
    by_one objects before inside around at (step n (declares (method_object flags) [] (Some code))) (Follows look objects around s (after survey_rules place s (closed (outline.method n flags) code)))
    (λ p d. term_follows look objects around s h place n (method_object flags) [] (Some code) (term_at (s.base + place) n false []) refl refl (Some (flags % 8)) p d
    (node_found to (closed (outline.method n flags) code)) finds.itself (flags, refl, refl, (to, n, refl))) es j

list_follows : (i : ItemTree) (f : FixedTree) → names_in_all (operands_of f) ≡ [] → (form : FieldForm) (flags : ℕ) (links : List NameParts) → f ≡ before_fields form flags links → (fs : List FieldTree) (us : FieldNodes) → AreFieldsOf fs us
    → ((k : ℕ) (inside : Option ℕ) → item_sites k inside i ≡ map (site_in inside) (unit_steps form flags links 0 fs)) → ItemFollows i (holds_fields f us)
list_follows i f none form flags links same fs us is sites_are look objects before inside around at es j level place end to stop s bytes is_node tiles finds h =
    same_start look objects around es s (begin_fields s place f) (after_fields survey_rules (begin_fields s place f) f us) refl refl refl
    (fields_follow look f none form flags links same 0 fs us is objects before inside around at es (subst (λ (xs : List Site). IsJustified objects before xs es) (sites_are (length before) inside) j)
    to tiles.0 stop end tiles.2 finds.inside is_node.1 (subst (λ (k : ℕ). AreFields end k us is_node.1) (sym (zero-min (2 ^ 64 - 1))) is_node.4) (begin_fields s place f) (stands_on objects around s (begin_fields s place f) refl refl h))

block_follows : (xs : List ExternalParts) (ms : NodeTrees) → AreExternals xs ms → ItemFollows (external_block xs) (holds (if_so (terms.int Zero)) ms)
block_follows xs ms are look objects before inside around at es j level place end to stop s bytes is_node tiles finds h =
    let s1 : Reading = enter s place (if_so (terms.int Zero)) in
    let s2 : Reading = after_all survey_rules s1 ms in
    let f : Follows look objects around s1 s2 es = externals_follow look xs ms are objects before inside around at es j level end s1 is_node.1 is_node.4 (stands_on objects around s s1 refl refl h) in
    let walk : s2.walk ≡ s1.walk = (externals_walked xs ms are s1 refl).0 in
    let known : (walks.leave s2.walk).known ≡ s2.walk.known =
    ap (λ (w : Walk). (walks.leave w).known) walk ∙ first_left (s.base + place) s.walk ∙ sym (ap (λ (w : Walk). w.known) walk) in
    let scope_same : (walks.leave s2.walk).around.scope ≡ s2.walk.around.scope = ap (λ (w : Walk). (walks.leave w).around.scope) walk ∙ sym (ap (λ (w : Walk). w.around.scope) walk) in
    same_start look objects around es s s1 (leave s2) refl refl refl
    (same_end look objects around es s1 s2 (leave s2) (stands_on (union objects (objects_of es)) around s2 (leave s2) known scope_same f.stands) refl refl (entries_left s2) f)

container_follows : (i : ItemTree) (form : ContainerForm) (n : NameParts) (vs : TermTrees) (o : ObjectTree) → opens_scope o ≡ true → (is : ItemTrees)
    → ((part : Found) → IsPackage form vs part → IsPartOf o [] None part)
    → ((k : ℕ) (inside : Option ℕ) → item_sites k inside i ≡ site_in inside (step n (declares_alone o)) ∷ items_sites (suc k) (Some k) is)
    → (ms : NodeTrees) → AllFollow is ms → ItemFollows i (holds (container form n vs) ms)
container_follows i form n vs o scoped is is_part sites_are ms all look objects before inside around at es j level place end to stop s bytes is_node tiles finds h =
    by_site objects before inside around at (step n (declares_alone o)) (items_sites (suc (length before)) (Some (length before)) is)
    (Follows look objects around s (after survey_rules place s (holds (container form n vs) ms))) (λ p d fs k. within p d fs k) es (subst (λ (xs : List Site). IsJustified objects before xs es) (sites_are (length before) inside) j)
  where
    within : (p : Path) → IsDeclared objects around n p → (fs : List Placement) → IsJustified (union objects (singleton p o)) (before ++ p ∷ []) (items_sites (suc (length before)) (Some (length before)) is) fs
        → Follows look objects around s (after survey_rules place s (holds (container form n vs) ms)) (placement (step n (declares_alone o)) around p ∷ fs)
    within p d fs k =
        let q : ℕ = s.base + place in
        let later : Namespace = union objects (singleton p o) in
        let s1 : Reading = enter s place (container form n vs) in
        let s2 : Reading = after_all survey_rules s1 ms in
        let long : suc (length before) ≡ length (before ++ p ∷ []) = omega (arith, length-append before (p ∷ [])) in
        let en : Entry = made objects around s h o q n true scoped p d in
        let f : Follows look later p s1 s2 fs =
        all look later (before ++ p ∷ []) (Some (length before)) p (inside_newest before p) fs
        (subst (λ (m : ℕ). IsJustified later (before ++ p ∷ []) (items_sites m (Some (length before)) is) fs) long k)
        level end to tiles.0 stop s1 is_node.1 is_node.4 tiles.2 finds.inside (stands_inside objects around s h o q n true scoped p d) in record {
          stands = subst (λ (m : Namespace). StandsIn m around (leave s2)) (union_assoc objects (singleton p o) (objects_of fs))
              (stands_left objects around s h o q n true scoped p d ms level end is_node.1 is_node.4 (union later (objects_of fs)) f.stands);
          heard = f.heard;
          base = f.base;
          news = en ∷ f.news;
          entries =
              entries_left s2
              ∙ f.entries
              ∙ ap (λ (l : List Entry). l ++ f.news) (entries_inside objects around s h o q n true scoped p d)
              ∙ append_assoc s.walk.entries (en ∷ []) f.news;
          objects_there = (
            record {
              scope = h.scope_is;
              path = refl;
              place = place;
              stands = refl;
              part = node_found to (holds (container form n vs) ms);
              found = finds.itself;
              is_part = is_part (node_found to (holds (container form n vs) ms)) (to, n, ms, refl);
            },
            f.objects_there,
          );
        }

container_closed : (i : ItemTree) (form : ContainerForm) (n : NameParts) (vs : TermTrees) (o : ObjectTree) → opens_scope o ≡ true → (is : ItemTrees)
    → ((k : ℕ) (inside : Option ℕ) → item_sites k inside i ≡ site_in inside (step n (declares_alone o)) ∷ items_sites (suc k) (Some k) is)
    → (content : List ℕ) → ItemFollows i (closed (container form n vs) content)
container_closed i form n vs o scoped is sites_are content look objects before inside around at es j level place end to stop s bytes is_node tiles finds h =
    by_site objects before inside around at (step n (declares_alone o)) (items_sites (suc (length before)) (Some (length before)) is)
    (Follows look objects around s (after survey_rules place s (closed (container form n vs) content)))
    (λ p d fs k. absurd (true≢false (sym (ap is_ok (allowed objects around s h o (s.base + place) n true scoped p d)) ∙ is_node.2)))
    es (subst (λ (xs : List Site). IsJustified objects before xs es) (sites_are (length before) inside) j)

scope_follows : (n : NameParts) (is : ItemTrees) (ms : NodeTrees) → AllFollow is ms → ItemFollows (scope kinds.Scope n is) (holds (outline.scope n) ms)
scope_follows n is ms all look objects before inside around at es j level place end to stop s bytes is_node tiles finds h =
    by_site objects before inside around at (step n opens) (items_sites (suc (length before)) (Some (length before)) is)
    (Follows look objects around s (after survey_rules place s (holds (outline.scope n) ms))) (λ p d fs k. within p d fs k) es j
  where
    within : (p : Path) → IsOpened objects around n p → (fs : List Placement) → IsJustified (union objects nothing) (before ++ p ∷ []) (items_sites (suc (length before)) (Some (length before)) is) fs
        → Follows look objects around s (after survey_rules place s (holds (outline.scope n) ms)) (placement (step n opens) around p ∷ fs)
    within p d fs k =
        let later : Namespace = union objects nothing in
        let s1 : Reading = enter s place (outline.scope n) in
        let s2 : Reading = after_all survey_rules s1 ms in
        let long : suc (length before) ≡ length (before ++ p ∷ []) = omega (arith, length-append before (p ∷ [])) in
        let f : Follows look later p s1 s2 fs =
        all look later (before ++ p ∷ []) (Some (length before)) p (inside_newest before p) fs
        (subst (λ (m : ℕ). IsJustified later (before ++ p ∷ []) (items_sites m (Some (length before)) is) fs) long k)
        level end to tiles.0 stop s1 is_node.1 is_node.4 tiles.2 finds.inside
        (subst (λ (m : Namespace). StandsIn m p s1) (sym (union-nothing objects)) (stands_in_scope objects around s h place n p d)) in record {
          stands = subst (λ (m : Namespace). StandsIn m around (leave s2)) (union_assoc objects nothing (objects_of fs))
              (stands_out_of_scope objects around s h place n p d ms level end is_node.1 is_node.4 (union later (objects_of fs)) f.stands);
          heard = f.heard;
          base = f.base;
          news = f.news;
          entries = entries_left s2 ∙ f.entries ∙ ap (λ (l : List Entry). l ++ f.news) (entries_in_scope objects around s h place n p d);
          objects_there = f.objects_there;
        }

scope_closed : (n : NameParts) (is : ItemTrees) (content : List ℕ) → ItemFollows (scope kinds.Scope n is) (closed (outline.scope n) content)
scope_closed n is content look objects before inside around at es j level place end to stop s bytes is_node tiles finds h =
    by_site objects before inside around at (step n opens) (items_sites (suc (length before)) (Some (length before)) is)
    (Follows look objects around s (after survey_rules place s (closed (outline.scope n) content)))
    (λ p d fs k. absurd (true≢false (sym (ap is_ok (opened objects around s h place n p d)) ∙ is_node.2))) es j

-- ---- all items

one_more : (i : ItemTree) (is : ItemTrees) (place : ℕ) (n : NodeTree) (ns : NodeTrees) → ItemFollows i n → AllFollow is ns → AllFollow (item i is) (node place n ns)
one_more i is place n ns here behind look objects before inside around at es j level end to start stop s bytes are tiles finds h =
    let xs : List Site = item_sites (length before) inside i in
    let r : Parts objects before xs (items_sites (length before + length xs) inside is) es = parts objects before xs (items_sites (length before + length xs) inside is) es j in
    let m : Reading = after survey_rules place s n in
    let later : Namespace = union objects (objects_of r.front) in
    let count : length r.front ≡ length xs = length-justified objects before xs r.front r.justified_front in
    let long : length before + length xs ≡ length (before ++ paths_of r.front) = omega (arith, length-append before (paths_of r.front), length-paths r.front, count) in
    let f : Follows look objects around s m r.front =
    here look objects before inside around at r.front r.justified_front are.2 place (end - length are.1) (first_place to ns) tiles.0 s are.0 are.5 tiles.4 (finds_node look to start stop place n ns tiles finds) h in
    let g : Follows look later around m (after_all survey_rules m ns) r.back =
    behind look later (before ++ paths_of r.front) inside around (inside_later before (paths_of r.front) inside around at) r.back
    (subst (λ (k : ℕ). IsJustified later (before ++ paths_of r.front) (items_sites k inside is) r.back) long r.justified_back)
    level end to tiles.0 stop m are.1 are.6 tiles.5 (finds_rest look to start stop place n ns tiles finds) f.stands in
    subst (Follows look objects around s (after_all survey_rules m ns)) (sym r.whole) (both_follow look objects around s m (after_all survey_rules m ns) r.front r.back f g)

none_more : AllFollow no_items no_more
none_more look objects before inside around at es j level end to start stop s bytes are tiles finds h =
    subst (Follows look objects around s s) (sym (none_justified objects before es j)) (stays look objects around s s h refl refl refl)

mutual
  item_follows : (i : ItemTree) (m : NodeTree) → IsItem i m → ItemFollows i m
  item_follows (name n d) m h = subst (ItemFollows (name n d)) (sym h) (declaration_follows (name n d) named.Name no_terms n (more (data_term d) no_terms) (data_none d) (name_object d) refl [] (λ part h. (refl, h)) (λ k inside. refl))
  item_follows (scope kinds.Scope n is) m (inl (ms, e, h)) = subst (ItemFollows (scope kinds.Scope n is)) (sym e) (scope_follows n is ms (items_follow is ms h))
  item_follows (scope kinds.Scope n is) m (inr (b, e, h)) = subst (ItemFollows (scope kinds.Scope n is)) (sym e) (scope_closed n is b)
  item_follows (scope kinds.Device n is) m (inl (ms, e, h)) =
      subst (ItemFollows (scope kinds.Device n is)) (sym e) (container_follows (scope kinds.Device n is) containers.Device n no_terms device_object refl is (λ part h. (refl, h)) (λ k inside. refl) ms (items_follow is ms h))
  item_follows (scope kinds.Device n is) m (inr (b, e, h)) = subst (ItemFollows (scope kinds.Device n is)) (sym e) (container_closed (scope kinds.Device n is) containers.Device n no_terms device_object refl is (λ k inside. refl) b)
  item_follows (scope (kinds.Processor id block len) n is) m (inl (ms, e, h)) =
      subst (ItemFollows (scope (kinds.Processor id block len) n is)) (sym e)
      (container_follows (scope (kinds.Processor id block len) n is) containers.Processor n (more (raw 1 id) (more (raw 4 block) (more (raw 1 len) no_terms))) (processor_object id block len) refl is (λ part h. (refl, h)) (λ k inside. refl) ms (items_follow is ms h))
  item_follows (scope (kinds.Processor id block len) n is) m (inr (b, e, h)) =
      subst (ItemFollows (scope (kinds.Processor id block len) n is)) (sym e)
      (container_closed (scope (kinds.Processor id block len) n is) containers.Processor n (more (raw 1 id) (more (raw 4 block) (more (raw 1 len) no_terms))) (processor_object id block len) refl is (λ k inside. refl) b)
  item_follows (scope (kinds.Power deepest order) n is) m (inl (ms, e, h)) =
      subst (ItemFollows (scope (kinds.Power deepest order) n is)) (sym e)
      (container_follows (scope (kinds.Power deepest order) n is) containers.Power n (more (raw 1 deepest) (more (raw 2 order) no_terms)) (power_object deepest order) refl is (λ part h. (refl, h)) (λ k inside. refl) ms (items_follow is ms h))
  item_follows (scope (kinds.Power deepest order) n is) m (inr (b, e, h)) =
      subst (ItemFollows (scope (kinds.Power deepest order) n is)) (sym e)
      (container_closed (scope (kinds.Power deepest order) n is) containers.Power n (more (raw 1 deepest) (more (raw 2 order) no_terms)) (power_object deepest order) refl is (λ k inside. refl) b)
  item_follows (scope kinds.Thermal n is) m (inl (ms, e, h)) =
      subst (ItemFollows (scope kinds.Thermal n is)) (sym e) (container_follows (scope kinds.Thermal n is) containers.Thermal n no_terms thermal_object refl is (λ part h. (refl, h)) (λ k inside. refl) ms (items_follow is ms h))
  item_follows (scope kinds.Thermal n is) m (inr (b, e, h)) = subst (ItemFollows (scope kinds.Thermal n is)) (sym e) (container_closed (scope kinds.Thermal n is) containers.Thermal n no_terms thermal_object refl is (λ k inside. refl) b)
  item_follows (method n flags code) m h = subst (ItemFollows (method n flags code)) (sym h) (method_follows n flags code)
  item_follows (external x) m h =
      subst (ItemFollows (external x)) (sym h)
      (λ look objects before inside around at es j level place end to stop s bytes is_node tiles finds stands. external_follows look objects before inside around at x (few x bytes is_node.spells) es j s stands)
  item_follows (external_block xs) m (inl (ms, e, h)) = subst (ItemFollows (external_block xs)) (sym e) (block_follows xs ms h)
  item_follows (external_block xs) m (inr (b, e, h)) =
      subst (ItemFollows (external_block xs)) (sym e) (λ look objects before inside around at es j level place end to stop s bytes is_node tiles finds stands. absurd (true≢false is_node.2))
  item_follows (mutex n flags) m h =
      subst (ItemFollows (mutex n flags)) (sym h) (declaration_follows (mutex n flags) named.Mutex no_terms n (more (raw 1 flags) no_terms) refl (mutex_object flags) refl [] (λ part h. (refl, h)) (λ k inside. refl))
  item_follows (event n) m h = subst (ItemFollows (event n)) (sym h) (declaration_follows (event n) named.Event no_terms n no_terms refl event_object refl [] (λ part h. (refl, h)) (λ k inside. refl))
  item_follows (region n space offset len) m h =
      subst (ItemFollows (region n space offset len)) (sym h)
      (declaration_follows (region n space offset len) named.Region no_terms n (more (raw 1 space) (more (terms.int offset) (more (terms.int len) no_terms))) refl (region_object space offset len) refl [] (λ part h. (refl, h)) (λ k inside. refl))
  item_follows (field n flags es) m (us, e, h) =
      subst (ItemFollows (field n flags es)) (sym e) (list_follows (field n flags es) (units fields.Field (n ∷ []) (more (raw 1 flags) no_terms)) refl FieldForm.Field flags (n ∷ []) refl es us h (λ k inside. refl))
  item_follows (index_field i k flags es) m (us, e, h) =
      subst (ItemFollows (index_field i k flags es)) (sym e)
      (list_follows (index_field i k flags es) (units fields.IndexField (i ∷ k ∷ []) (more (raw 1 flags) no_terms)) refl FieldForm.Index flags (i ∷ k ∷ []) refl es us h (λ k inside. refl))
  item_follows (bank_field n bank value flags es) m (us, e, h) =
      subst (ItemFollows (bank_field n bank value flags es)) (sym e)
      (list_follows (bank_field n bank value flags es) (units fields.BankField (n ∷ bank ∷ []) (more (terms.int value) (more (raw 1 flags) no_terms))) refl (FieldForm.Bank value) flags (n ∷ bank ∷ []) refl es us h (λ k inside. refl))
  item_follows (create w source index n) m h =
      subst (ItemFollows (create w source index n)) (sym h)
      (declaration_follows (create w source index n) (named.Create w) (more (terms.ref source) (more (terms.int index) no_terms)) n no_terms refl (create_object w index) refl (source ∷ []) (λ part h. (source, refl, h)) (λ k inside. refl))
  item_follows (create_field source index bits n) m h =
      subst (ItemFollows (create_field source index bits n)) (sym h)
      (declaration_follows (create_field source index bits n) named.CreateField (more (terms.ref source) (more (terms.int index) (more (terms.int bits) no_terms))) n no_terms refl (create_field_object index bits) refl (source ∷ []) (λ part h. (source, refl, h)) (λ k inside. refl))

  pub items_follow : (is : ItemTrees) (ms : NodeTrees) → AreItems is ms → AllFollow is ms
  items_follow no_items ms h = subst (AllFollow no_items) (sym h) none_more
  items_follow (item i is) ms (place, n, ns, e, hi, hs) = subst (AllFollow (item i is)) (sym e) (one_more i is place n ns (item_follows i n hi) (items_follow is ns hs))
