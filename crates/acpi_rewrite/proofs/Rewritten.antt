-- Rewritten tables load as they did before.
use Rattle.std.proofs.Common.{◌≡◌, ◌≢◌, ◌↔◌, ℕ, suc, ◌<◌, ◌≤◌, List, [], ◌∷◌, ◌++◌, map, length, Option, Some, Result, Ok, Err, IfOk, IfErr, refl, sym, ap, subst, ◌∙◌, All, arith}
use Rattle.std.specs.List.{AllByRecursion, AllZip}
use Rattle.std.proofs.lemmas.List.{length-drop}
use Rattle.std.proofs.lemmas.List.Elements.{All-drop, recursion_from_All}
use Rattle.acpi_space.specs.Lookups.{Lookup, singleton, union}
use Rattle.acpi_space.proofs.Elements.{one_some}
use Rattle.acpi_table.specs.Tables.{header_of, length_field}
use Rattle.acpi_table.specs.declared.tables.Header.{Header}
use Rattle.acpi_tree.specs.Tree.{ItemTrees}
use Rattle.acpi_tree.specs.Terms.{TermTrees}
use Rattle.acpi_terms.specs.Spelling.{SpellsItems}
use Rattle.acpi_terms.proofs.Fitting.{items_are_fit}
use Rattle.acpi_terms.proofs.OneTree.{one_item_tree}
use Rattle.acpi_declare.specs.Links.{PendingLink, links_of, pending_links, all_pending}
use Rattle.acpi_declare.specs.Listing.{Placement, objects_of, IsListing}
use Rattle.acpi_declare.specs.Loads.{AreListings, objects_after, HasNoLoad}
use Rattle.acpi_declare.specs.declared.fault.LoadFault.{LoadFault}
use Rattle.acpi_declare.specs.declared.fault.LoadFault.TheVariants.{Memory}
use Rattle.acpi_declare.specs.Namespace.{Namespace}
use Rattle.acpi_declare.specs.Notes.{external_counts, methods}
use Rattle.acpi_declare.specs.Notes as notes
use Rattle.acpi_declare.specs.Predefined.{predefined}
use Rattle.acpi_declare.specs.Sites.{sites}
use Rattle.acpi_declare.specs.Tables.{code_of, IsTableOf}
use Rattle.acpi_pass.proofs.Unions.{union-nothing, union_assoc}
use Rattle.acpi_body.specs.Bodies.{BodyTree, read, unread}
use Rattle.acpi_body.specs.Statements.{ReadsBody}
use Rattle.acpi_order.specs.Bodies.{Method, with_counts, methods_of, all_methods, grammar_of, IsBody}
use Rattle.acpi_order.specs.Machines.{Machine, IsMachine}
use Rattle.acpi_order.specs.Orders.{TellsOfJoin}
use Rattle.acpi_order.proofs.Told.{told_of_join}
use Rattle.acpi_order.proofs.Joined.{machine_of, machine_is, load_is}
use Rattle.acpi_order.proofs.ReadBodies.{body_of, body_is, one_body_there, bodies_of}
use Rattle.acpi_write.specs.CanonicalItems.{items_bytes}
use Rattle.acpi_write.specs.Tables.{header_for}
use Rattle.acpi_write.specs.Shortest.{HasWithin}
use Rattle.acpi_write.proofs.ItemsShorter.{items_are_shortest, items_are_typed}
use Rattle.acpi_write.proofs.TermsShorter.{read_terms_are_written}
use Rattle.acpi_write.proofs.ItemsWritten.{items_written}
use Rattle.acpi_rewrite.specs.Rewriting.{codes, without_code, body_bytes, IsNewCode, IsRewritten, AreEachRewritten, AreRewritten, AreTablesOfBytes, LoadToJoin}
use Rattle.acpi_rewrite.proofs.Recoded.{alike_height, alike_fit, alike_typed}
use Rattle.acpi_rewrite.proofs.Shortened.{AreNoLonger, alike_shortened}
use Rattle.acpi_rewrite.proofs.SpelledCodes.{codes_in_bytes}
use Rattle.acpi_rewrite.proofs.Relisted.{sites_alike, table_codes, relisted, AreAlike, are_alike, justified, same_objects, same_links, same_counts, recoded, recoded_methods, listed_codes}

abbrev pub AreBytes : List ℕ → Type 0
AreBytes bytes = All (λ b. b < 256) bytes

-- ---- one body

abbrev with_code : List ℕ → Method → Method
with_code code m = record { path = m.path; code = code; counts = m.counts }

module _ (depth : ℕ) (objects : Namespace) (m : Method) (code : List ℕ) (below : AreBytes m.code) where
  -- the new code of a body has that body, and isn't longer
  same_body : (b : BodyTree) → IsBody depth objects m b → body_bytes b ≡ Some code → IsBody depth objects (with_code code m) b × (length code ≤ length m.code)
  same_body (read ts) is e =
      let r = read_terms_are_written (grammar_of objects m) m.path depth m.code ts (λ locals. refl) below is in
      let same : r.written ≡ code = one_some r.written code (sym r.spelling ∙ e) in
      (subst (λ (c : List ℕ). ReadsBody (grammar_of objects m) m.path depth c ts) same r.reads, subst (λ (c : List ℕ). length c ≤ length m.code) same r.within)
  same_body (unread kept) is e =
      let same : m.code ≡ code = sym is.0 ∙ one_some kept code e in (
        (one_some kept code e, subst (λ (c : List ℕ). (ts : TermTrees) → ReadsBody (grammar_of objects m) m.path depth c ts → ⊥) same is.1),
        subst (λ (c : List ℕ). length c ≤ length m.code) same (omega arith),
      )

  new_body : IsNewCode depth objects m code → body_of depth objects (with_code code m) ≡ body_of depth objects m
  new_body h =
      one_body_there depth objects (with_code code m) (body_of depth objects (with_code code m)) h.0 (body_is depth objects (with_code code m)) (same_body h.0 h.1 h.2).0
      ∙ one_body_there depth objects m h.0 (body_of depth objects m) h.1 (body_is depth objects m)

  new_code : IsNewCode depth objects m code → IsNewCode depth objects (with_code code m) code
  new_code h = (h.0, (same_body h.0 h.1 h.2).0, h.2)

  no_longer : IsNewCode depth objects m code → length code ≤ length m.code
  no_longer h = (same_body h.0 h.1 h.2).1

-- ---- the bodies of a table

abbrev codes_of_methods : List notes.Method → List (List ℕ)
codes_of_methods ms = map (λ (m : notes.Method). m.code) ms

module _ (depth : ℕ) (objects : Namespace) (counts : Lookup ℕ) where
  new_bodies : (ms : List notes.Method) (cs : List (List ℕ)) → AllByRecursion AreBytes (codes_of_methods ms) → AllZip (IsNewCode depth objects) (map (with_counts counts) ms) cs
      → bodies_of depth objects (map (with_counts counts) (recoded ms cs)) ≡ bodies_of depth objects (map (with_counts counts) ms)
  new_bodies [] [] below h = refl
  new_bodies [] (c ∷ cs) below h = absurd h
  new_bodies (m ∷ ms) [] below h = absurd h
  new_bodies (m ∷ ms) (c ∷ cs) below h =
      ap (λ (b : BodyTree). union (bodies_of depth objects (map (with_counts counts) (recoded ms cs))) (singleton m.path b)) (new_body depth objects (with_counts counts m) c below.0 h.0)
      ∙ ap (λ (l : Lookup BodyTree). union l (singleton m.path (body_of depth objects (with_counts counts m)))) (new_bodies ms cs below.1 h.1)

  new_codes : (ms : List notes.Method) (cs : List (List ℕ)) → AllByRecursion AreBytes (codes_of_methods ms) → AllZip (IsNewCode depth objects) (map (with_counts counts) ms) cs
      → AllZip (IsNewCode depth objects) (map (with_counts counts) (recoded ms cs)) cs
  new_codes [] [] below h = tt
  new_codes [] (c ∷ cs) below h = absurd h
  new_codes (m ∷ ms) [] below h = absurd h
  new_codes (m ∷ ms) (c ∷ cs) below h = (new_code depth objects (with_counts counts m) c below.0 h.0, new_codes ms cs below.1 h.1)

  none_longer : (ms : List notes.Method) (cs : List (List ℕ)) → AllByRecursion AreBytes (codes_of_methods ms) → AllZip (IsNewCode depth objects) (map (with_counts counts) ms) cs
      → AreNoLonger (codes_of_methods ms) cs
  none_longer [] [] below h = tt
  none_longer [] (c ∷ cs) below h = absurd h
  none_longer (m ∷ ms) [] below h = absurd h
  none_longer (m ∷ ms) (c ∷ cs) below h = (no_longer depth objects (with_counts counts m) c below.0 h.0, none_longer ms cs below.1 h.1)

-- ---- one table

-- what is written of the items with new code isn't longer
module _ (depth : ℕ) (N objects : Namespace) (old : List ℕ) (below : AreBytes old) (is : ItemTrees) (spelled : SpellsItems is (code_of old)) (t : List Placement)
    (listing : IsListing N (sites is) t) (js : ItemTrees) (alike : without_code js ≡ without_code is) (bodies : AllZip (IsNewCode depth objects) (methods_of t) (codes js)) where
  code_below : AreBytes (code_of old)
  code_below = All-drop (λ b. b < 256) 36 old below

  codes_was : codes_of_methods (methods t) ≡ codes is
  codes_was = listed_codes N [] (sites is) t listing ∙ table_codes is

  codes_below : AllByRecursion AreBytes (codes_of_methods (methods t))
  codes_below = subst (AllByRecursion AreBytes) (sym codes_was) (codes_in_bytes is (code_of old) code_below spelled)

  codes_no_longer : AreNoLonger (codes is) (codes js)
  codes_no_longer = subst (λ (cs : List (List ℕ)). AreNoLonger cs (codes js)) codes_was (none_longer depth objects (external_counts t) (methods t) (codes js) codes_below bodies)

  pub shorter_items : HasWithin (items_bytes js) (code_of old)
  shorter_items = items_are_shortest is js (code_of old) code_below spelled (alike_shortened is js alike codes_no_longer)

module _ (depth number : ℕ) (N objects : Namespace) (old new : List ℕ) (below : AreBytes old) (is : ItemTrees) (t : List Placement)
    (table : IsTableOf depth number old is) (listing : IsListing N (sites is) t) (r : IsRewritten depth objects t old new) where
  abbrev js : ItemTrees
  js = r.rewritten

  alike : without_code js ≡ without_code is
  alike = r.alike ∙ ap without_code (one_item_tree (code_of old) r.items is r.spelled table.spelled)

  abbrev now : List Placement
  now = relisted (sites js) t

  are : AreAlike (sites js) t
  are = are_alike N [] (sites is) (sites js) t (sites_alike is js alike) listing

  listing_now : IsListing N (sites js) now
  listing_now = justified N [] (sites is) (sites js) t (sites_alike is js alike) listing

  code_small : AreBytes (code_of old)
  code_small = code_below depth N objects old below is table.spelled t listing js alike r.bodies

  methods_small : AllByRecursion AreBytes (codes_of_methods (methods t))
  methods_small = codes_below depth N objects old below is table.spelled t listing js alike r.bodies

  spelled_now : SpellsItems js (code_of new)
  spelled_now =
      let typed = items_are_typed is (code_of old) code_small table.spelled in
      let fit = items_are_fit is (code_of old) table.spelled (recursion_from_All (λ b. b < 256) (code_of old) code_small) in
      items_written js (code_of new) (alike_typed is js alike typed) (alike_fit is js alike ∙ fit) r.written.spelling

  table_now : IsTableOf depth number new js
  table_now = record {
    numbered = record { table = r.written.table; signed = ap (λ (h : Header). h.signature) r.written.header ∙ table.numbered.signed };
    spelled = spelled_now;
    height = subst (λ (k : ℕ). k ≤ depth) (sym (alike_height is js alike)) table.height;
  }

  methods_now : methods_of now ≡ map (with_counts (external_counts t)) (recoded (methods t) (codes js))
  methods_now =
      ap (λ (c : Lookup ℕ). map (with_counts c) (methods now)) (same_counts (sites js) t are)
      ∙ ap (map (with_counts (external_counts t))) (recoded_methods (sites js) t are ∙ ap (recoded (methods t)) (table_codes js))

  bodies_now : bodies_of depth objects (methods_of now) ≡ bodies_of depth objects (methods_of t)
  bodies_now = ap (bodies_of depth objects) methods_now ∙ new_bodies depth objects (external_counts t) (methods t) (codes js) methods_small r.bodies

  rewritten_now : IsRewritten depth objects now new new
  rewritten_now = record {
    items = js;
    spelled = spelled_now;
    rewritten = js;
    alike = refl;
    bodies = subst (λ (ms : List Method). AllZip (IsNewCode depth objects) ms (codes js)) (sym methods_now)
        (new_codes depth objects (external_counts t) (methods t) (codes js) methods_small r.bodies);
    written = record { table = r.written.table; header = by r.written.table.has_length; spelling = r.written.spelling };
  }
    where
      by : length_field new ≡ length new → header_of new ≡ header_for (header_of new) new
      by e = λ i. record (header_of new) { length = e i }

  shorter_table : length new ≤ length old
  shorter_table =
      let code : length (code_of new) ≤ length (code_of old) = subst (λ (o : Option (List ℕ)). HasWithin o (code_of old)) r.written.spelling
      (shorter_items depth N objects old below is table.spelled t listing js alike r.bodies) in
      omega (arith, code, length-drop 36 new, length-drop 36 old, r.written.table.has_header, table.numbered.table.has_header)

-- ---- all tables

bodies_appended : (depth : ℕ) (objects : Namespace) (ms ns : List Method) → bodies_of depth objects (ms ++ ns) ≡ union (bodies_of depth objects ns) (bodies_of depth objects ms)
bodies_appended depth objects [] ns = sym (union-nothing (bodies_of depth objects ns))
bodies_appended depth objects (m ∷ ms) ns =
    ap (λ (l : Lookup BodyTree). union l (singleton m.path (body_of depth objects m))) (bodies_appended depth objects ms ns)
    ∙ union_assoc (bodies_of depth objects ns) (bodies_of depth objects ms) (singleton m.path (body_of depth objects m))

-- the listings of the rewritten tables, which say the same
pub record Again (depth number : ℕ) (N objects : Namespace) (ts : List (List Placement)) (new : List (List ℕ)) : Type 0 where
  pub placements : List (List Placement)
  pub listings : AreListings depth number N new placements
  pub objects_same : objects_after N placements ≡ objects_after N ts
  pub links_same : all_pending placements ≡ all_pending ts
  pub bodies_same : bodies_of depth objects (all_methods placements) ≡ bodies_of depth objects (all_methods ts)
  pub each : AreEachRewritten depth objects placements new new

each_again : (depth number : ℕ) (N objects : Namespace) (ts : List (List Placement)) (bs ns : List (List ℕ)) → AreTablesOfBytes bs → AreListings depth number N bs ts
    → AreEachRewritten depth objects ts bs ns → Again depth number N objects ts ns
each_again depth number N objects [] [] [] below h r = record { placements = []; listings = tt; objects_same = refl; links_same = refl; bodies_same = refl; each = tt }
each_again depth number N objects [] [] (n ∷ ns) below h r = absurd r
each_again depth number N objects [] (b ∷ bs) ns below h r = absurd h
each_again depth number N objects (t ∷ ts) [] ns below h r = absurd h
each_again depth number N objects (t ∷ ts) (b ∷ bs) [] below h r = absurd r
each_again depth number N objects (t ∷ ts) (b ∷ bs) (n ∷ ns) below h r =
    let is = h.0.0 in
    let first = now depth number N objects b n below.0 is t h.0.1 h.0.2 r.0 in
    let declared = same_objects (sites r.0.rewritten) t (are depth number N objects b n below.0 is t h.0.1 h.0.2 r.0) in
    let later = each_again depth (suc number) (union N (objects_of t)) objects ts bs ns below.1 h.1 r.1 in
    record {
      placements = first ∷ later.placements;
      listings = (
        (r.0.rewritten, table_now depth number N objects b n below.0 is t h.0.1 h.0.2 r.0, listing_now depth number N objects b n below.0 is t h.0.1 h.0.2 r.0),
        subst (λ (M : Namespace). AreListings depth (suc number) (union N M) ns later.placements) (sym declared) later.listings,
      );
      objects_same = ap (λ (M : Namespace). objects_after (union N M) later.placements) declared ∙ later.objects_same;
      links_same = ap (λ (ls : List PendingLink). ls ++ all_pending later.placements) (same_links (sites r.0.rewritten) t (are depth number N objects b n below.0 is t h.0.1 h.0.2 r.0))
          ∙ ap (λ (ls : List PendingLink). pending_links t ++ ls) later.links_same;
      bodies_same = bodies_appended depth objects (methods_of first) (all_methods later.placements)
          ∙ ap (λ (l : Lookup BodyTree). union l (bodies_of depth objects (methods_of first))) later.bodies_same
          ∙ ap (union (bodies_of depth objects (all_methods ts))) (bodies_now depth number N objects b n below.0 is t h.0.1 h.0.2 r.0)
          ∙ sym (bodies_appended depth objects (methods_of t) (all_methods ts));
      each = (rewritten_now depth number N objects b n below.0 is t h.0.1 h.0.2 r.0, later.each);
    }

none_longer_each : (depth number : ℕ) (N objects : Namespace) (ts : List (List Placement)) (bs ns : List (List ℕ)) → AreTablesOfBytes bs → AreListings depth number N bs ts
    → AreEachRewritten depth objects ts bs ns → AreNoLonger bs ns
none_longer_each depth number N objects [] [] [] below h r = tt
none_longer_each depth number N objects [] [] (n ∷ ns) below h r = absurd r
none_longer_each depth number N objects [] (b ∷ bs) ns below h r = absurd h
none_longer_each depth number N objects (t ∷ ts) [] ns below h r = absurd h
none_longer_each depth number N objects (t ∷ ts) (b ∷ bs) [] below h r = absurd r
none_longer_each depth number N objects (t ∷ ts) (b ∷ bs) (n ∷ ns) below h r =
    (shorter_table depth number N objects b n below.0 h.0.0 t h.0.1 h.0.2 r.0, none_longer_each depth (suc number) (union N (objects_of t)) objects ts bs ns below.1 h.1 r.1)

module _ (depth : ℕ) (tables new : List (List ℕ)) (below : AreTablesOfBytes tables) (h : AreRewritten depth tables new) where
  abbrev objects : Namespace
  objects = objects_after predefined h.placements

  all_again : Again depth 0 predefined objects h.placements new
  all_again = each_again depth 0 predefined objects h.placements tables new below h.listings h.each

  same_machine : machine_of depth h.placements ≡ machine_of depth all_again.placements
  same_machine =
      let o : objects ≡ objects_after predefined all_again.placements = sym all_again.objects_same in
      let l : links_of objects (all_pending h.placements) ≡ links_of (objects_after predefined all_again.placements) (all_pending all_again.placements) =
      ap (λ (N : Namespace). links_of N (all_pending h.placements)) o ∙ ap (links_of (objects_after predefined all_again.placements)) (sym all_again.links_same) in
      let b : bodies_of depth objects (all_methods h.placements) ≡ bodies_of depth (objects_after predefined all_again.placements) (all_methods all_again.placements) =
      sym all_again.bodies_same ∙ ap (λ (N : Namespace). bodies_of depth N (all_methods all_again.placements)) o in
      λ i. record { objects = o i; links = l i; bodies = b i }

  pub load_alike : (m : Machine) → IsMachine depth tables m ↔ IsMachine depth new m
  load_alike m = (
    (λ k. subst (IsMachine depth new) (sym (load_is depth tables h.placements m h.listings k ∙ same_machine)) (machine_is depth new all_again.placements all_again.listings)),
    (λ k. subst (IsMachine depth tables) (sym (load_is depth new all_again.placements m all_again.listings k ∙ sym same_machine)) (machine_is depth tables h.placements h.listings)),
  )

  pub stays : AreRewritten depth new new
  stays = record {
    placements = all_again.placements;
    listings = all_again.listings;
    each = subst (λ (N : Namespace). AreEachRewritten depth N all_again.placements new new) (sym all_again.objects_same) all_again.each;
  }

  pub none_grows : AreNoLonger tables new
  none_grows = none_longer_each depth 0 predefined objects h.placements tables new below h.listings h.each

-- .. as a call tells it
pub told_alike : {T E : Type 0} (r : Result T E) (new : T → List (List ℕ)) (depth : ℕ) (tables : List (List ℕ)) → IfOk r (λ v. AreRewritten depth tables (new v))
    → IfOk r (λ v. AreTablesOfBytes tables × AreTablesOfBytes (new v)) → IfOk r (λ v. (m : Machine) → IsMachine depth tables m ↔ IsMachine depth (new v) m)
told_alike (Ok v) new depth tables h below = load_alike depth tables (new v) below.0 h
told_alike (Err e) new depth tables h below = tt

-- .. and of independent SSDTs in any order the join
module _ {T : Type 0} (depth : ℕ) (dsdt : List ℕ) (given : List (List ℕ)) (r : Result T LoadFault) (none : IfErr r (λ e. e ≢ Memory → HasNoLoad depth (dsdt ∷ given))) where
  pub tells_join : (new : T → List (List ℕ)) → IfOk r (λ v. AreRewritten depth (dsdt ∷ given) (new v)) → IfOk r (λ v. AreTablesOfBytes (dsdt ∷ given) × AreTablesOfBytes (new v))
      → TellsOfJoin (λ Part v. LoadToJoin Part depth (new v)) depth dsdt given r
  tells_join new ok below =
      told_of_join (λ Part v. LoadToJoin Part depth (new v)) (λ v. (m : Machine) → IsMachine depth (dsdt ∷ given) m ↔ IsMachine depth (new v) m) depth dsdt given r
      (λ Part m v loads joins alike. (m, (alike m).0 loads, joins)) (told_alike r new depth (dsdt ∷ given) ok below) none
