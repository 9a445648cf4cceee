-- The code of the methods that a table declares stands in it at their places.
use Rattle.std.proofs.Common.{◌≡◌, ℕ, suc, ◌+◌, ◌-◌, ◌≤◌, List, [], ◌∷◌, ◌++◌, length, take, drop, Option, Some, None, refl, sym, ap, subst, ◌∙◌, append_assoc, append-nil, arith}
use Rattle.std.specs.Prelude.{slice_range}
use Rattle.std.specs.List.{AllZip}
use Rattle.std.proofs.lemmas.List.{length-append, length-take-le, take-append-drop, take_at, drop_at}
use Rattle.acpi_name.specs.Names.{Segment}
use Rattle.acpi_space.specs.Lookups.{union}
use Rattle.acpi_tree.specs.declared.object.FieldForm.{FieldForm}
use Rattle.acpi_tree.specs.Tree.{ItemTree, name, scope, method, external, external_block, create, create_field, mutex, event, region, field, index_field, bank_field, ItemTrees, no_items, item}
use Rattle.acpi_code.specs.declared.opcode.Opcode.{Opcode}
use Rattle.acpi_code.specs.declared.opcode.Opcode.TheVariants as opcodes
use Rattle.acpi_code.specs.Opcodes.{opcode_bytes}
use Rattle.acpi_terms.specs.Forms.{ArgumentsOf, kind_opcode, kind_arguments}
use Rattle.acpi_terms.specs.Spelling.{SpellsFilled}
use Rattle.acpi_declare.specs.Listing.{Placement, object_of, IsJustified, IsListing}
use Rattle.acpi_declare.specs.Namespace.{Namespace}
use Rattle.acpi_declare.specs.Notes.{Method, methods_by, methods}
use Rattle.acpi_declare.specs.Sites.{Effect, declares, opens, expects, Step, step, kind_object, scope_effect, unit_steps, external_step, external_steps, Site, item_sites, items_sites, sites}
use Rattle.acpi_declare.specs.Tables.{code_of, IsTableOf}
use Rattle.acpi_pass.proofs.SiteCodes.{effect_codes, scope_codes, step_codes, site_codes, sites_appended, units_codes, external_codes, externals_codes, in_sites}
use Rattle.acpi_places.specs.declared.place.CodePlace.{CodePlace}
use Rattle.acpi_places.specs.Places.{place_of_last, SpellsItemAt, SpellsItemsAt, IsCodeAt, AreTablePlaces}

-- ---- bytes that stand in others

record Stands (whole : List ℕ) (start : ℕ) (b : List ℕ) : Type 0 where
  before : List ℕ
  after : List ℕ
  parts : whole ≡ before ++ (b ++ after)
  starts : start ≡ length before

stands_first : (whole : List ℕ) (start : ℕ) (a b : List ℕ) → Stands whole start (a ++ b) → Stands whole start a
stands_first whole start a b s = record {
  before = s.before;
  after = b ++ s.after;
  parts = s.parts ∙ ap (λ (l : List ℕ). s.before ++ l) (append_assoc a b s.after);
  starts = s.starts;
}

stands_later : (whole : List ℕ) (start : ℕ) (a b : List ℕ) → Stands whole start (a ++ b) → Stands whole (start + length a) b
stands_later whole start a b s = record {
  before = s.before ++ a;
  after = s.after;
  parts = s.parts ∙ ap (λ (l : List ℕ). s.before ++ l) (append_assoc a b s.after) ∙ sym (append_assoc s.before a (b ++ s.after));
  starts = omega (arith, s.starts, length-append s.before a);
}

-- they are so many bytes behind the place
abbrev IsAt : List ℕ → List ℕ → ℕ → Type 0
IsAt whole b start = b ≡ slice_range whole start (start + length b)

stands_at : (whole : List ℕ) (start : ℕ) (b : List ℕ) → Stands whole start b → IsAt whole b start
stands_at whole start b s =
    let size : start + length b - start ≡ length b = omega arith in
    sym (ap (λ k. take k (drop start whole)) size ∙ ap (λ l. take (length b) (drop start l)) s.parts
    ∙ ap (take (length b)) (drop_at s.before (b ++ s.after) start (sym s.starts)) ∙ take_at b s.after (length b) refl)

module _ (whole : List ℕ) (start : ℕ) (o : Opcode) (v : ArgumentsOf o) (Fills : List ℕ → Type 0) (a : List ℕ) (f : SpellsFilled o v Fills a) (s : Stands whole start a) where
  -- the last part of a package
  stands_last : Stands whole (place_of_last start a f.1) f.1
  stands_last =
      let op = opcode_bytes o in
      let p = f.4 in
      let at = stands_later whole _ f.0 f.1 (stands_later whole _ p.len (f.0 ++ f.1) (stands_later whole start op (p.len ++ (f.0 ++ f.1)) (subst (Stands whole start) p.whole s))) in
      let place : ((start + length op) + length p.len) + length f.0 ≡ place_of_last start a f.1 =
      omega (arith, ap length p.whole, length-append op (p.len ++ (f.0 ++ f.1)), length-append p.len (f.0 ++ f.1), length-append f.0 f.1) in
      subst (λ k. Stands whole k f.1) place at

-- ---- the code of each stands at its place

module _ (whole : List ℕ) where
  abbrev IsThere : List ℕ → CodePlace → Type 0
  IsThere code c = code ≡ slice_range whole c.place (c.place + c.length)

  abbrev AreThere : List (List ℕ) → List CodePlace → Type 0
  AreThere cs places = AllZip IsThere cs places

  both_there : (cs ds : List (List ℕ)) (ps qs : List CodePlace) → AreThere cs ps → AreThere ds qs → AreThere (cs ++ ds) (ps ++ qs)
  both_there [] ds [] qs h k = k
  both_there [] ds (p ∷ ps) qs h k = absurd h
  both_there (c ∷ cs) ds [] qs h k = absurd h
  both_there (c ∷ cs) ds (p ∷ ps) qs h k = (h.0, both_there cs ds ps qs h.1 k)

  none_there : (cs : List (List ℕ)) (ps : List CodePlace) → cs ≡ [] → ps ≡ [] → AreThere cs ps
  none_there cs ps none none' = subst (λ (ds : List (List ℕ)). AreThere ds ps) (sym none) (subst (AreThere []) (sym none') tt)

  abbrev AreSitesThere : List Site → List CodePlace → Type 0
  AreSitesThere xs places = AreThere (site_codes xs) places

  mutual
    item_there : (table start : ℕ) (i : ItemTree) (bytes : List ℕ) (places : List CodePlace) (k : ℕ) (inside : Option ℕ) → Stands whole start bytes → SpellsItemAt table start i bytes places
        → AreSitesThere (item_sites k inside i) places
    item_there table start (method n flags code) bytes places k inside s h =
        let f = h.0 in
        let at : IsAt whole f.1 (place_of_last start bytes f.1) = stands_at whole _ f.1 (stands_last whole start opcodes.Method (n, (flags, tt)) (λ b. b ≡ code) bytes f s) in
        subst (AreThere (code ∷ [])) (sym h.1) (subst (λ (c : List ℕ). IsAt whole c (place_of_last start bytes c)) f.3 at, tt)
    item_there table start (scope kind n is) bytes places k inside s f =
        subst (λ (cs : List (List ℕ)). AreThere (cs ++ site_codes (items_sites (suc k) (Some k) is)) places) (sym (scope_codes (kind_object kind)))
        (items_there table _ is f.1 places (suc k) (Some k) (stands_last whole start (kind_opcode kind) (kind_arguments kind n) _ bytes f s) f.3)
    item_there table start (external x) bytes places k inside s h = none_there _ places (in_sites inside (external_step x) ∙ ap step_codes (sym (append-nil (external_step x))) ∙ external_codes x []) h.1
    item_there table start (external_block xs) bytes places k inside s h = none_there _ places (in_sites inside (external_steps xs) ∙ externals_codes xs) h.1
    item_there table start (field r flags es) bytes places k inside s h =
        none_there _ places (in_sites inside (unit_steps FieldForm.Field flags (r ∷ []) 0 es) ∙ units_codes FieldForm.Field flags (r ∷ []) 0 es) h.1
    item_there table start (index_field i d flags es) bytes places k inside s h =
        none_there _ places (in_sites inside (unit_steps FieldForm.Index flags (i ∷ d ∷ []) 0 es) ∙ units_codes FieldForm.Index flags (i ∷ d ∷ []) 0 es) h.1
    item_there table start (bank_field r b value flags es) bytes places k inside s h =
        none_there _ places (in_sites inside (unit_steps (FieldForm.Bank value) flags (r ∷ b ∷ []) 0 es) ∙ units_codes (FieldForm.Bank value) flags (r ∷ b ∷ []) 0 es) h.1
    item_there table start (name n d) bytes places k inside s h = none_there _ places refl h.1
    item_there table start (create w source index n) bytes places k inside s h = none_there _ places refl h.1
    item_there table start (create_field source index bits n) bytes places k inside s h = none_there _ places refl h.1
    item_there table start (mutex n flags) bytes places k inside s h = none_there _ places refl h.1
    item_there table start (event n) bytes places k inside s h = none_there _ places refl h.1
    item_there table start (region n space offset len) bytes places k inside s h = none_there _ places refl h.1

    items_there : (table start : ℕ) (is : ItemTrees) (bytes : List ℕ) (places : List CodePlace) (k : ℕ) (inside : Option ℕ) → Stands whole start bytes → SpellsItemsAt table start is bytes places
        → AreSitesThere (items_sites k inside is) places
    items_there table start no_items bytes places k inside s h = none_there [] places refl h.1
    items_there table start (item i is) bytes places k inside s h =
        let both = subst (Stands whole start) h.6 s in
        let here = item_sites k inside i in
        let later = items_sites (k + length here) inside is in
        subst (λ (cs : List (List ℕ)). AreThere cs places) (sym (sites_appended here later))
        (subst (AreThere (site_codes here ++ site_codes later)) (sym h.7)
        (both_there (site_codes here) (site_codes later) h.2 h.3 (item_there table start i h.0 h.2 k inside (stands_first whole start h.0 h.1 both) h.4)
        (items_there table (start + length h.0) is h.1 h.3 (k + length here) inside (stands_later whole start h.0 h.1 both) h.5)))

  -- ---- listings

  effect_there : (d : Effect) (p : List Segment) (ms : List Method) (cs : List (List ℕ)) (places : List CodePlace)
      → ((qs : List CodePlace) → AreThere cs qs → AllZip (IsCodeAt whole) ms qs) → AreThere (effect_codes d ++ cs) places → AllZip (IsCodeAt whole) (methods_by d p ++ ms) places
  effect_there (declares o links None) p ms cs places later h = later places h
  effect_there (declares o links (Some code)) p ms cs [] later h = absurd h
  effect_there (declares o links (Some code)) p ms cs (q ∷ qs) later h = (h.0, later qs h.1)
  effect_there opens p ms cs places later h = later places h
  effect_there (expects count) p ms cs places later h = later places h

  -- the methods of a listing have the code of its sites
  methods_there : (N : Namespace) (before : List (List Segment)) (xs : List Site) (es : List Placement) (places : List CodePlace) → IsJustified N before xs es → AreSitesThere xs places
      → AllZip (IsCodeAt whole) (methods es) places
  methods_there N before [] [] [] h there = tt
  methods_there N before [] [] (c ∷ cs) h there = absurd there
  methods_there N before [] (e ∷ es) places h there = absurd h
  methods_there N before (x ∷ xs) [] places h there = absurd h
  methods_there N before (x ∷ xs) (e ∷ es) places h there =
      effect_there e.step.effect e.path (methods es) (site_codes xs) places (λ qs k. methods_there (union N (object_of e)) (before ++ e.path ∷ []) xs es qs h.3 k)
      (subst (λ (y : Step). AreThere (effect_codes y.effect ++ site_codes xs) places) (sym h.0) there)

-- ---- a table

code_stands : (bytes : List ℕ) → 36 ≤ length bytes → Stands bytes 36 (code_of bytes)
code_stands bytes long = record {
  before = take 36 bytes;
  after = [];
  parts = sym (take-append-drop 36 bytes) ∙ ap (λ (l : List ℕ). take 36 bytes ++ l) (sym (append-nil (drop 36 bytes)));
  starts = sym (length-take-le 36 bytes long);
}

pub table_places : (depth number : ℕ) (N : Namespace) (bytes : List ℕ) (is : ItemTrees) (t : List Placement) (places : List CodePlace) → IsTableOf depth number bytes is → IsListing N (sites is) t
    → SpellsItemsAt number 36 is (code_of bytes) places → AreTablePlaces number bytes (methods t) places
table_places depth number N bytes is t places table listing h = record {
  items = is;
  spelled = h;
  code = methods_there bytes N [] (sites is) t places listing
      (items_there bytes number 36 is (code_of bytes) places 0 None (code_stands bytes table.numbered.table.has_header) h);
}
