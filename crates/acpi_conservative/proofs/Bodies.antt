-- The bodies of strict tables are read as the strict load reads them.
use Rattle.std.proofs.Common.{◌≡◌, ◌+◌, ◌^◌, ◌<◌, ◌≤◌, ℕ, Bool, true, false, suc, cond, List, [], ◌∷◌, ◌++◌, append_assoc, length, length-append, slice_get, inl, inr, Option, Some, None, refl, sym, ap, subst, ◌∙◌, arith}
use Rattle.std.specs.List.{AllByRecursion}
use Rattle.std.specs.Option.{option_and_then}
use Rattle.std.specs.FinMap as finite
use Rattle.std.proofs.lemmas.Bool.{le-ltb}
use Rattle.std.proofs.lemmas.List.{length-drop}
use Rattle.acpi_name.specs.Names.{NameParts}
use Rattle.acpi_space.specs.Lookups.{Lookup, union}
use Rattle.acpi_space.specs.Spaces.{PathMap}
use Rattle.acpi_space.specs.Laws.{Among}
use Rattle.acpi_tree.specs.Objects.{ObjectTree}
use Rattle.acpi_tree.specs.Terms.{TermTrees}
use Rattle.acpi_tree.specs.TermView.{terms_tree}
use Rattle.acpi_declare.specs.Namespace.{Namespace}
use Rattle.acpi_declare.specs.Predefined.{predefined}
use Rattle.acpi_declare.specs.Sites.{Effect, declares, opens, expects}
use Rattle.acpi_declare.specs.Listing.{Placement, objects_of}
use Rattle.acpi_declare.specs.Loads.{AreListings, objects_after}
use Rattle.acpi_declare.specs.Notes.{external_counts, Method, methods_by, methods}
use Rattle.acpi_declare.specs.Tables.{code_of}
use Rattle.acpi_body.specs.Arguments.{BodyGrammar, body_grammar}
use Rattle.acpi_body.specs.Bodies as bodies
use Rattle.acpi_body.specs.Laws.{AgreeAt}
use Rattle.acpi_body.specs.Loads.{have_load}
use Rattle.acpi_body.specs.Searches.{Searched, all_searches}
use Rattle.acpi_body.specs.Statements.{ReadsBody}
use Rattle.acpi_body.proofs.Kept.{kept_statements}
use Rattle.acpi_body.specs.Bodies.{BodyTree, read, unread}
use Rattle.acpi_outline.specs.Nodes as outline
use Rattle.acpi_outline.specs.Nodes.{closed}
use Rattle.acpi_outline.specs.View.{nodes_view}
use Rattle.acpi_conditions.specs.Entries.{Path, Entry}
use Rattle.acpi_conditions.proofs.Viewing.{get_behind}
use Rattle.acpi_entries.specs.declared.body.BodyReading.{BodyReading}
use Rattle.acpi_entries.specs.declared.body.BodyReading.TheVariants.{Terms, Opaque}
use Rattle.acpi_entries.specs.declared.body.MethodBody.{MethodBody}
use Rattle.acpi_survey.specs.declared.machine_survey.SurveyedTable.{SurveyedTable}
use Rattle.acpi_survey.specs.Bodies.{entry_grammar}
use Rattle.acpi_ranges.specs.Sites.{table_at, byte_at}
use Rattle.acpi_ranges.specs.EntryParts.{part_in, part_declaring}
use Rattle.acpi_entries.specs.EntryBodies.{IsBodyReading, IsBodyIn, IsBodyOf}
use Rattle.acpi_ranges.specs.Lookup.{Found, node_found, part_at}
use Rattle.acpi_ranges.proofs.Searching.{part_is_searched}
use Rattle.acpi_ranges.proofs.PartLookups.{part_within, in_table, at_byte}
use Rattle.acpi_survey.specs.Reading.{Reading}
use Rattle.acpi_survey.specs.Predefined.{first_reading}
use Rattle.acpi_pieces.specs.Tables.{code_read}
use Rattle.acpi_survey.specs.Survey.{place_in, behind_table}
use Rattle.acpi_survey.specs.Surveys.{AreTables, behind_nodes, bytes_of, nodes_of_each}
use Rattle.acpi_survey.proofs.Surveys.{are_read}
use Rattle.acpi_conservative.specs.Parts.{DeclaredPart, declared_by, declared, IsPartOf}
use Rattle.acpi_conservative.specs.Laws.{loading, IsSameBody, HasBodyOf, HaveBodies, StrictBodies}
use Rattle.acpi_conservative.proofs.WholeTables.{strict_table_is_read}
use Rattle.acpi_conservative.proofs.TableCounts.{strict_counts}
use Rattle.acpi_conservative.proofs.Steps.{IsObjectAt, HaveEntries}
use Rattle.acpi_conservative.proofs.FollowedTables.{part_of, IsFollowed, AreFollowed, strict_tables_follow}

-- ---- one code has one reading

-- a reading without loads is one where loads may stand, and the other way round
module _ (g : BodyGrammar) (p : Path) (depth : ℕ) (code : List ℕ) where
  agrees : (es : List Searched) → AllByRecursion (AgreeAt g (loading g)) es
  agrees [] = tt
  agrees (e ∷ es) = (refl, agrees es)

  agrees_back : (es : List Searched) → AllByRecursion (AgreeAt (loading g) g) es
  agrees_back [] = tt
  agrees_back (e ∷ es) = (refl, agrees_back es)

  with_load : (ts : TermTrees) → ReadsBody g p depth code ts → ReadsBody (loading g) p depth code ts
  with_load ts h = record {
    spelled = kept_statements g (loading g) p finite.empty ts code (inl (λ locals may. refl)) (agrees (all_searches p finite.empty ts)) h.spelled;
    within = h.within;
  }

  without_load : (ts : TermTrees) → have_load ts ≡ false → ReadsBody (loading g) p depth code ts → ReadsBody g p depth code ts
  without_load ts none h = record {
    spelled = kept_statements (loading g) g p finite.empty ts code (inr none) (agrees_back (all_searches p finite.empty ts)) h.spelled;
    within = h.within;
  }

  reads_a_load : (ts : TermTrees) → ReadsBody (loading g) p depth code ts → ((us : TermTrees) → ¬ ReadsBody g p depth code us) → have_load ts ≡ true
  reads_a_load ts h none = by (have_load ts) refl
    where
      by : (b : Bool) → have_load ts ≡ b → have_load ts ≡ true
      by true is = is
      by false is = absurd (none ts (without_load ts is h))

  same_body : (r : BodyReading) → IsBodyReading (loading g) p depth code r → (tree : BodyTree) → bodies.IsBodyOf g p depth code tree → IsSameBody g p depth code tree r
  same_body (Terms v) is (read ts) tree = (is ts).1 (with_load ts tree)
  same_body (Terms v) is (unread bytes) tree = (tree.0, reads_a_load (terms_tree v.items) ((is (terms_tree v.items)).0 refl) tree.1)
  same_body (Opaque reason place name) is (read ts) tree = absurd (is.1 ts (with_load ts tree))
  same_body (Opaque reason place name) is (unread bytes) tree = (tree.0, is.0)

-- ---- where an entry stands

-- the entry stands where the search finds the method's code
pub record IsMethodAt (look : ℕ → Option Found) (base : ℕ) (m : Method) (e : Entry) : Type 0 where
  pub path : e.path ≡ m.path
  pub place : ℕ
  pub stands : e.term.place ≡ base + place
  pub to : ℕ
  pub name : NameParts
  pub flags : ℕ
  pub found : look place ≡ Some (node_found to (closed (outline.method name flags) m.code))

-- an object with code is one
as_method : (look : ℕ → Option Found) (base : ℕ) (d : DeclaredPart) (e : Entry) → IsObjectAt look base d e → (content : List ℕ) → d.code ≡ Some content
    → IsMethodAt look base (record { path = d.path; code = content }) e
as_method look base d e at content has =
    let h : IsPartOf d.object d.links (Some content) at.part = subst (λ (c : Option (List ℕ)). IsPartOf d.object d.links c at.part) has at.is_part in
    record { path = at.path; place = at.place; stands = at.stands; to = h.3.0; name = h.3.1; flags = h.0; found = at.found ∙ ap Some h.3.2 }

-- among the entries of objects there is one for each method
abbrev HasMethod : (look : ℕ → Option Found) → (base : ℕ) → List Entry → Method → Type 0
HasMethod look base es m = (e : Entry) × Among es e × IsMethodAt look base m e

has_more : (look : ℕ → Option Found) (base : ℕ) (e : Entry) (es : List Entry) (m : Method) → HasMethod look base es m → HasMethod look base (e ∷ es) m
has_more look base e es m h = (h.0, inr h.1, h.2)

-- .. where there are such entries of one object and those behind it
with_object : (look : ℕ → Option Found) (base : ℕ) (s p : Path) (o : ObjectTree) (links : List NameParts) (code : Option (List ℕ)) (ds : List DeclaredPart) (ms : List Method)
    → ((es : List Entry) → HaveEntries look base ds es → (m : Method) → Among ms m → HasMethod look base es m) → (es : List Entry) → HaveEntries look base (declared_by (declares o links code) s p ++ ds) es
    → (m : Method) → Among (methods_by (declares o links code) p ++ ms) m → HasMethod look base es m
with_object look base s p o links code ds ms later [] h m a = absurd h
with_object look base s p o links None ds ms later (e ∷ es) h m a = has_more look base e es m (later es h.1 m a)
with_object look base s p o links (Some content) ds ms later (e ∷ es) h m (inr a) = has_more look base e es m (later es h.1 m a)
with_object look base s p o links (Some content) ds ms later (e ∷ es) h m (inl same) =
    let d : DeclaredPart = record { object = o; links = links; code = Some content; scope = s; path = p } in
    (e, inl refl, subst (λ (m : Method). IsMethodAt look base m e) same (as_method look base d e h.0 content refl))

method_there : (look : ℕ → Option Found) (base : ℕ) (t : List Placement) (es : List Entry) → HaveEntries look base (declared t) es → (m : Method) → Among (methods t) m → HasMethod look base es m
method_there look base [] es h m a = absurd a
method_there look base (x ∷ t) es h m a = by x.step.effect h a (λ es h m a. method_there look base t es h m a)
  where
    by : (d : Effect) → HaveEntries look base (declared_by d x.scope x.path ++ declared t) es → Among (methods_by d x.path ++ methods t) m
        → ((es : List Entry) → HaveEntries look base (declared t) es → (m : Method) → Among (methods t) m → HasMethod look base es m) → HasMethod look base es m
    by opens h a later = later es h m a
    by (expects count) h a later = later es h m a
    by (declares o links code) h a later = with_object look base x.scope x.path o links code (declared t) (methods t) later es h m a

split_at : {X : Type 0} (xs : List X) (x : X) → Among xs x → (front : List X) × (back : List X) × (xs ≡ front ++ x ∷ back)
split_at [] x m = absurd m
split_at (y ∷ xs) x (inl same) = ([], xs, ap (λ y. y ∷ xs) same)
split_at (y ∷ xs) x (inr m) = let r = split_at xs x m in (y ∷ r.0, r.1, ap (λ l. y ∷ l) r.2)

numbered : {X : Type 0} (before xs later : List X) (x : X) → Among xs x → (n : ℕ) × (length before ≤ n) × (slice_get (before ++ (xs ++ later)) n ≡ Some x)
numbered before xs later x m =
    let r = split_at xs x m in (
      length (before ++ r.0),
      omega (arith, length-append before r.0),
      ap (λ l. slice_get (before ++ l) (length (before ++ r.0))) (ap (λ l. l ++ later) r.2 ∙ append_assoc r.0 (x ∷ r.1) later)
          ∙ ap (λ l. slice_get l (length (before ++ r.0))) (sym (append_assoc before r.0 (x ∷ (r.1 ++ later))))
          ∙ get_behind (before ++ r.0) (r.1 ++ later) x,
    )

-- ---- the body of one entry

module _ (depth number : ℕ) (kept : List SurveyedTable) (last : Reading) (k : SurveyedTable) (here : slice_get kept number ≡ Some k) (m : Method) (e : Entry)
    (at : IsMethodAt (part_of k) (place_in number 0) m e) (short : at.place < 2 ^ 64) (n : ℕ) (is : slice_get last.walk.entries n ≡ Some e) (behind : 10 ≤ n) where
  stands_in : table_at e.term.place ≡ number
  stands_in = ap table_at at.stands ∙ in_table number at.place short

  table_is : slice_get kept (table_at e.term.place) ≡ Some k
  table_is = ap (slice_get kept) stands_in ∙ here

  part_is : part_declaring kept last.walk.entries n ≡ Some (node_found at.to (closed (outline.method at.name at.flags) m.code))
  part_is =
      ap (λ b. cond b None (option_and_then (λ (e : Entry). part_in kept e.term.place) (slice_get last.walk.entries n))) (le-ltb n 10 behind)
      ∙ ap (option_and_then (λ (e : Entry). part_in kept e.term.place)) is
      ∙ ap (option_and_then (λ (t : SurveyedTable). part_at (byte_at e.term.place) (length (code_read t.judged)) (nodes_view t.nodes))) table_is
      ∙ part_is_searched (byte_at e.term.place) (length (code_read k.judged)) (nodes_view k.nodes)
      ∙ ap (part_of k) (ap byte_at at.stands ∙ at_byte number at.place short)
      ∙ at.found

  body_in : (b : Option MethodBody) → IsBodyOf last.walk.entries last.counts kept depth n b
      → IsBodyIn last.walk.entries last.counts depth (Some e) (Some k) (Some (node_found at.to (closed (outline.method at.name at.flags) m.code))) b
  body_in b h =
      subst (λ (p : Option Found). IsBodyIn last.walk.entries last.counts depth (Some e) (Some k) p b) part_is
      (subst (λ (t : Option SurveyedTable). IsBodyIn last.walk.entries last.counts depth (Some e) t (part_declaring kept last.walk.entries n) b) table_is
      (subst (λ (o : Option Entry). IsBodyIn last.walk.entries last.counts depth o (option_and_then (λ (e : Entry). slice_get kept (table_at e.term.place)) o) (part_declaring kept last.walk.entries n) b) is h))

  module _ (objects : Namespace) (externals : Lookup ℕ) (counted : entry_grammar last.walk.entries last.counts k.expected e ≡ loading (body_grammar objects (finite.get k.expected) e.path))
      (heard : finite.get k.expected ≡ externals) where
    counts_are : entry_grammar last.walk.entries last.counts k.expected e ≡ loading (body_grammar objects externals m.path)
    counts_are = counted ∙ ap (λ (x : Lookup ℕ). loading (body_grammar objects x e.path)) heard ∙ ap (λ (q : Path). loading (body_grammar objects externals q)) at.path

    has_body : HasBodyOf depth kept last objects externals m
    has_body = record { number = n; entry = e; is_numbered = is; path = at.path; body = λ b h. by b (body_in b h) }
      where
        by : (b : Option MethodBody) → IsBodyIn last.walk.entries last.counts depth (Some e) (Some k) (Some (node_found at.to (closed (outline.method at.name at.flags) m.code))) b
            → (c : MethodBody) × (b ≡ Some c) × (c.code.now ≡ m.code)
            × ((tree : BodyTree) → bodies.IsBodyOf (body_grammar objects externals m.path) m.path depth m.code tree → IsSameBody (body_grammar objects externals m.path) m.path depth m.code tree c.reading)
        by None h = absurd h
        by (Some c) h = (
          c,
          refl,
          h.0,
          same_body (body_grammar objects externals m.path) m.path depth m.code c.reading
              (subst (λ (q : Path). IsBodyReading (loading (body_grammar objects externals m.path)) q depth m.code c.reading) at.path
              (subst (λ (x : BodyGrammar). IsBodyReading x e.path depth m.code c.reading) counts_are h.2)),
        )

-- ---- of each method of each table

module _ (depth : ℕ) (kept : List SurveyedTable) (last : Reading) (objects : Namespace)
    (counted : (e : Entry) (expected : PathMap ℕ) → entry_grammar last.walk.entries last.counts expected e ≡ loading (body_grammar objects (finite.get expected) e.path)) where
  one_body : (number : ℕ) (before : List Entry) (t : List Placement) (k : SurveyedTable) → slice_get kept number ≡ Some k → IsFollowed last number before t k → length (code_read k.judged) ≤ 2 ^ 64 → (m : Method) → Among (methods t) m
      → HasBodyOf depth kept last objects (external_counts t) m
  one_body number before t k here f short m a =
      let r = method_there (part_of k) (place_in number 0) t f.news f.objects_there m a in
      let at : IsMethodAt (part_of k) (place_in number 0) m r.0 = r.2 in
      let within = part_within at.place (length (code_read k.judged)) 0 (length (code_read k.judged)) (nodes_view k.nodes) f.tiles (node_found at.to (closed (outline.method at.name at.flags) m.code)) at.found in
      let n = numbered before f.news f.later r.0 r.1 in
      has_body depth number kept last k here m r.0 at (omega (arith, within.1, short)) n.0 (ap (λ l. slice_get l n.0) f.entries ∙ n.2) (omega (arith, n.1, f.is_behind))
      objects (external_counts t) (counted r.0 k.expected) f.heard

  all_bodies : (number : ℕ) (before : List Entry) (t : List Placement) (k : SurveyedTable) → slice_get kept number ≡ Some k → IsFollowed last number before t k → length (code_read k.judged) ≤ 2 ^ 64
      → (ms : List Method) → ((m : Method) → Among ms m → Among (methods t) m) → AllByRecursion (HasBodyOf depth kept last objects (external_counts t)) ms
  all_bodies number before t k here f short [] among = tt
  all_bodies number before t k here f short (m ∷ ms) among = (one_body number before t k here f short m (among m (inl refl)), all_bodies number before t k here f short ms (λ x a. among x (inr a)))

  tables_bodies : (number : ℕ) (front rest : List SurveyedTable) → kept ≡ front ++ rest → number ≡ length front → (s : Reading) → AreTables depth number s rest last → (before : Namespace) (ts : List (List Placement))
      → AreListings depth number before (bytes_of rest) ts → (es : List Entry) → AreFollowed last number es ts rest → AllByRecursion (HaveBodies depth kept last objects) ts
  tables_bodies number front [] whole count s a before [] l es f = tt
  tables_bodies number front [] whole count s a before (t ∷ ts) l es f = absurd f
  tables_bodies number front (k ∷ rest) whole count s a before [] l es f = absurd f
  tables_bodies number front (k ∷ rest) whole count s a before (t ∷ ts) l es f =
      let here : slice_get kept number ≡ Some k = ap (λ l. slice_get l number) whole ∙ ap (slice_get (front ++ k ∷ rest)) count ∙ get_behind front rest k in
      let code : length (code_read k.judged) ≡ length (code_of k.bytes) = ap length (ap code_read (strict_table_is_read depth number k.bytes l.0.0 l.0.1 k.judged a.0.judged)) in
      let short : length (code_read k.judged) ≤ 2 ^ 64 = omega (arith, code, length-drop 36 k.bytes, l.0.1.numbered.table.within_limit) in (
        all_bodies number es t k here f.0 short (methods t) (λ m x. x),
        tables_bodies (suc number) (front ++ k ∷ []) rest (whole ∙ sym (append_assoc front (k ∷ []) rest)) (omega (arith, count, length-append front (k ∷ []))) (behind_table (behind_nodes number s k)) a.1
            (union before (objects_of t)) ts l.1 (es ++ f.0.news) f.1,
      )

pub strict_bodies : StrictBodies
strict_bodies depth kept last a ts l =
    tables_bodies depth kept last (objects_after predefined ts) (strict_counts depth (bytes_of kept) ts l (nodes_of_each kept) last (are_read depth 0 first_reading last kept a))
    0 [] kept refl refl first_reading a predefined ts l first_reading.walk.entries (strict_tables_follow depth kept last a ts l)
