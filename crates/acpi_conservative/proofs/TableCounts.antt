-- The counts of the entries that are read of strict tables are what their objects take.
use Rattle.std.proofs.Common.{◌≡◌, ℕ, suc, List, [], ◌∷◌, ◌++◌, append-nil, cond, length, Option, Some, None, refl, sym, ap, ap₂, subst, ◌∙◌}
use Rattle.std.specs.List.{AllZip, flat_map}
use Rattle.std.specs.Option.{option_or}
use Rattle.std.specs.Prelude.{codes}
use Rattle.acpi_name.specs.Names.{Segment, NameParts}
use Rattle.acpi_space.specs.Lookups.{singleton, union}
use Rattle.acpi_tree.specs.Objects.{ObjectTree, args_of, root_object, scope_object, predefined_object, mutex_object, method_object}
use Rattle.acpi_tree.specs.Tree.{ItemTrees}
use Rattle.acpi_declare.specs.Namespace.{Namespace}
use Rattle.acpi_declare.specs.Sites.{Effect, declares, opens, expects, Site, sites}
use Rattle.acpi_declare.specs.Placing.{IsPlaced}
use Rattle.acpi_declare.specs.Listing.{Placement, object_by, object_of, objects_of, IsJustified}
use Rattle.acpi_declare.specs.Loads.{AreListings, objects_after}
use Rattle.acpi_declare.specs.Predefined.{predefined}
use Rattle.acpi_body.specs.Arguments.{args_in}
use Rattle.acpi_outline.specs.Nodes.{NodeTrees}
use Rattle.acpi_outline.specs.Rules.{after_all}
use Rattle.acpi_conservative.specs.StrictNodes.{AreItems}
use Rattle.acpi_conditions.specs.Entries.{Path, Entry}
use Rattle.acpi_conditions.specs.Listings as conditions
use Rattle.acpi_conditions.proofs.Basics.{path_itself}
use Rattle.acpi_survey.specs.Reading.{Reading, survey_rules}
use Rattle.acpi_survey.specs.Predefined.{first_reading, with_object}
use Rattle.acpi_pieces.specs.Tables.{code_read}
use Rattle.acpi_survey.specs.Survey.{at_table, behind_table, AreRead}
use Rattle.acpi_conservative.specs.Strict.{placed_by, all_placed, AreItemListings}
use Rattle.acpi_conservative.specs.Laws.{IsEntryOf, StrictCounts}
use Rattle.acpi_conservative.proofs.First.{items_of}
use Rattle.acpi_conservative.proofs.ReadTables.{strict_read_is_survey}
use Rattle.acpi_conservative.proofs.NothingLost.{nodes_are_items}
use Rattle.acpi_conservative.proofs.ItemCounts.{counted_by, all_counted, Counts, two_counts, counts_none, items_counted}
use Rattle.acpi_conservative.proofs.SiteCounts.{counted_of, listing_counted}
use Rattle.acpi_conservative.proofs.StrictLinks.{is_all_there}
use Rattle.acpi_conservative.proofs.StrictCounts.{IsCounted, counts_alike}
use Rattle.acpi_conservative.proofs.Steps.{both_zip}

-- ---- table after table

one_table : (s before read behind : Reading) (is : ItemTrees) → Counts s before [] → Counts before read (all_counted is) → Counts read behind [] → Counts s behind (all_counted is)
one_table s before read behind is here items there =
    two_counts s before behind [] (all_counted is) here
    (subst (Counts before behind) (append-nil (all_counted is)) (two_counts before read behind (all_counted is) [] items there))

tables_counted : (depth number : ℕ) (s last : Reading) (bs : List (List ℕ)) (iss : List ItemTrees) (nss : List NodeTrees) → AllZip AreItems iss nss → AreRead depth number s bs nss last
    → Counts s last (flat_map all_counted iss)
tables_counted depth number s last [] [] [] z r = subst (λ (t : Reading). Counts s t []) (sym r) (counts_none s s refl refl)
tables_counted depth number s last (b ∷ bs) [] [] z r = absurd r
tables_counted depth number s last [] (is ∷ iss) [] z r = absurd z
tables_counted depth number s last (b ∷ bs) (is ∷ iss) [] z r = absurd z
tables_counted depth number s last [] [] (ns ∷ nss) z r = absurd z
tables_counted depth number s last (b ∷ bs) [] (ns ∷ nss) z r = absurd z
tables_counted depth number s last [] (is ∷ iss) (ns ∷ nss) z r = absurd r
tables_counted depth number s last (b ∷ bs) (is ∷ iss) (ns ∷ nss) z r =
    let before : Reading = at_table number s in
    let read : Reading = after_all survey_rules before ns in
    let behind : Reading = behind_table read in
    two_counts s behind last (all_counted is) (flat_map all_counted iss)
    (one_table s before read behind is (counts_none s before refl refl) (items_counted is ns z.0 depth (length (code_read r.0)) before (code_read r.0) r.2) (counts_none read behind refl refl))
    (tables_counted depth (suc number) behind last bs iss nss z.1 r.3)

items_listed : (objects : Namespace) (iss : List ItemTrees) (ts : List (List Placement)) → AreItemListings objects iss ts → flat_map all_counted iss ≡ flat_map counted_of ts
items_listed objects [] [] l = refl
items_listed objects [] (t ∷ ts) l = absurd l
items_listed objects (is ∷ iss) [] l = absurd l
items_listed objects (is ∷ iss) (t ∷ ts) l = ap₂ (λ (cs ds : List (Option ℕ)). cs ++ ds) (sym (listing_counted objects is t l.0)) (items_listed (union objects (objects_of t)) iss ts l.1)

-- ---- the objects at the end

-- what stands in the one stands in the other
abbrev Extends : Namespace → Namespace → Type 0
Extends objects all = (p : Path) (o : ObjectTree) → objects p ≡ Some o → all p ≡ Some o

pub or_first : (a b : Option ObjectTree) (o : ObjectTree) → a ≡ Some o → option_or a b ≡ Some o
or_first None b o e = cc
or_first (Some q) b o e = e

or_assoc : (a b c : Option ObjectTree) → option_or (option_or a b) c ≡ option_or a (option_or b c)
or_assoc None b c = refl
or_assoc (Some q) b c = refl

or_free : (a b : Option ObjectTree) → a ≡ None → option_or a b ≡ b
or_free None b e = refl
or_free (Some q) b e = cc

after_extends : (objects : Namespace) (ts : List (List Placement)) → Extends objects (objects_after objects ts)
after_extends objects [] p o e = e
after_extends objects (t ∷ ts) p o e = after_extends (union objects (objects_of t)) ts p o (or_first (objects p) (objects_of t p) o e)

-- the count is what the object at the placement's path takes
abbrev IsTaken : Namespace → conditions.Placement → Option ℕ → Type 0
IsTaken all d c = c ≡ Some (args_in (all d.path))

there : (p : Path) (o : ObjectTree) → singleton p o p ≡ Some o
there p o = ap (λ b. cond b (Some o) None) (path_itself p p refl)

one_taken : (all objects : Namespace) (d : Effect) (n : NameParts) (s p : Path) → IsPlaced d objects s n p → Extends (union objects (object_by d p)) all → AllZip (IsTaken all) (placed_by d n s p) (counted_by d)
one_taken all objects (declares o links code) n s p placed ext =
    (ap (λ (q : Option ObjectTree). Some (args_in q)) (sym (ext p o (or_free (objects p) (singleton p o p) placed.free ∙ there p o))), tt)
one_taken all objects opens n s p placed ext = tt
one_taken all objects (expects count) n s p placed ext = tt

table_taken : (all objects : Namespace) (before : List (List Segment)) (xs : List Site) (es : List Placement) → IsJustified objects before xs es → Extends (union objects (objects_of es)) all
    → AllZip (IsTaken all) (all_placed es) (counted_of es)
table_taken all objects before [] [] j ext = tt
table_taken all objects before [] (e ∷ es) j ext = absurd j
table_taken all objects before (x ∷ xs) [] j ext = absurd j
table_taken all objects before (x ∷ xs) (e ∷ es) j ext =
    let more : Namespace = union objects (object_of e) in
    let rest : Extends (union more (objects_of es)) all = λ p o h. ext p o (sym (or_assoc (objects p) (object_of e p) (objects_of es p)) ∙ h) in
    let here : Extends more all = λ p o h. rest p o (or_first (more p) (objects_of es p) o h) in
    both_zip (IsTaken all) (placed_by e.step.effect e.step.name e.scope e.path) (all_placed es) (counted_by e.step.effect) (counted_of es)
    (one_taken all objects e.step.effect e.step.name e.scope e.path j.2 here) (table_taken all more (before ++ e.path ∷ []) xs es j.3 rest)

tables_taken : (depth number : ℕ) (objects : Namespace) (bs : List (List ℕ)) (ts : List (List Placement)) → AreListings depth number objects bs ts
    → AllZip (IsTaken (objects_after objects ts)) (flat_map all_placed ts) (flat_map counted_of ts)
tables_taken depth number objects [] [] l = tt
tables_taken depth number objects [] (t ∷ ts) l = absurd l
tables_taken depth number objects (b ∷ bs) [] l = absurd l
tables_taken depth number objects (b ∷ bs) (t ∷ ts) l =
    let more : Namespace = union objects (objects_of t) in
    let all : Namespace = objects_after more ts in
    both_zip (IsTaken all) (all_placed t) (flat_map all_placed ts) (counted_of t) (flat_map counted_of ts)
    (table_taken all objects [] (sites l.0.0) t l.0.2 (after_extends more ts)) (tables_taken depth (suc number) more bs ts l.1)

-- ---- the entries

entries_counted : (all : Namespace) (ds : List conditions.Placement) (es : List Entry) (cs : List (Option ℕ)) → AllZip IsEntryOf ds es → AllZip (IsTaken all) ds cs → AllZip (IsCounted all) es cs
entries_counted all [] [] [] h k = tt
entries_counted all [] [] (c ∷ cs) h k = absurd k
entries_counted all [] (e ∷ es) cs h k = absurd h
entries_counted all (d ∷ ds) [] cs h k = absurd h
entries_counted all (d ∷ ds) (e ∷ es) [] h k = absurd k
entries_counted all (d ∷ ds) (e ∷ es) (c ∷ cs) h k = (k.0 ∙ ap (λ (p : Path). Some (args_in (all p))) (sym h.0.path), entries_counted all ds es cs h.1 k.1)

first_counted : (all : Namespace) → Extends predefined all → AllZip (IsCounted all) first_reading.walk.entries first_reading.counts
unfolding first_reading with_object
first_counted all ext =
    (one [] root_object refl, (one (codes "_GPE" ∷ []) scope_object refl, (one (codes "_PR_" ∷ []) scope_object refl, (one (codes "_SB_" ∷ []) scope_object refl, (one (codes "_SI_" ∷ []) scope_object refl, (one (codes "_TZ_" ∷ []) scope_object refl, (one (codes "_GL_" ∷ []) (mutex_object 0) refl, (one (codes "_OSI" ∷ []) (method_object 1) refl, (one (codes "_OS_" ∷ []) predefined_object refl, (one (codes "_REV" ∷ []) predefined_object refl, tt))))))))))
  where
    one : (p : Path) (o : ObjectTree) → predefined p ≡ Some o → Some (args_of o) ≡ Some (args_in (all p))
    one p o is = ap (λ (q : Option ObjectTree). Some (args_in q)) (sym (ext p o is))

pub strict_counts : StrictCounts
strict_counts depth bs ts l nss last r =
    let all : Namespace = objects_after predefined ts in
    let items = items_of depth 0 predefined bs ts l in
    let strict = strict_read_is_survey depth bs ts l nss last r in
    let counts : last.counts ≡ first_reading.counts ++ flat_map counted_of ts =
    (tables_counted depth 0 first_reading last bs items.0 nss (nodes_are_items depth 0 first_reading last bs items.0 nss items.1 r) r strict.3).1
    ∙ ap (λ (cs : List (Option ℕ)). first_reading.counts ++ cs) (items_listed predefined items.0 ts items.2) in
    let counted : AllZip (IsCounted all) (first_reading.walk.entries ++ strict.0) (first_reading.counts ++ flat_map counted_of ts) =
    both_zip (IsCounted all) first_reading.walk.entries strict.0 first_reading.counts (flat_map counted_of ts) (first_counted all (after_extends predefined ts))
    (entries_counted all (flat_map all_placed ts) strict.0 (flat_map counted_of ts) strict.2 (tables_taken depth 0 predefined bs ts l)) in
    counts_alike all last.walk.entries last.counts (is_all_there depth bs ts l nss last r)
    (subst (λ (es : List Entry). AllZip (IsCounted all) es last.counts) (sym strict.1) (subst (λ (cs : List (Option ℕ)). AllZip (IsCounted all) (first_reading.walk.entries ++ strict.0) cs) (sym counts) counted))
