-- Only fields and buffer fields have links, and only methods have code.
use Rattle.std.proofs.Common.{◌≡◌, ℕ, suc, ◌+◌, ◌==◌, length, Bool, true, false, cond, List, [], ◌∷◌, ◌++◌, map, refl, sym, ap, ◌∙◌, subst, Option, Some, None, unwrap_or}
use Rattle.std.specs.List.{AllByRecursion}
use Rattle.std.specs.Option.{option_or}
use Rattle.acpi_name.specs.Names.{Segment, NameParts}
use Rattle.acpi_space.specs.Lookups.{is_same_path, singleton, union}
use Rattle.acpi_space.proofs.Comparisons.{path_itself}
use Rattle.acpi_space.proofs.Elements.{all_append}
use Rattle.acpi_tree.specs.declared.object.FieldForm.{FieldForm}
use Rattle.acpi_tree.specs.Tree.{FieldTree, unit, ExternalParts, ItemTree, name, scope, method, external, external_block, create, create_field, mutex, event, region, field, index_field, bank_field, ItemTrees, no_items, item}
use Rattle.acpi_tree.specs.Offsets.{element_bits}
use Rattle.acpi_tree.specs.Objects.{ObjectTree, method_object, field_object, create_object, create_field_object}
use Rattle.acpi_declare.specs.Namespace.{Namespace}
use Rattle.acpi_declare.specs.Predefined.{predefined}
use Rattle.acpi_declare.specs.Sites.{Effect, declares, opens, expects, Step, Site, site_in, kind_object, scope_effect, unit_step, unit_steps, external_step, external_steps, own_steps, own_sites, item_sites, items_sites, sites, step}
use Rattle.acpi_declare.specs.Placing.{IsPlaced}
use Rattle.acpi_declare.specs.Listing.{Placement, object_by, object_of, objects_of, IsJustified}
use Rattle.acpi_declare.specs.Links.{Links, PendingLink, pending_by, pending_links, all_pending, answers, one_link, links_of}
use Rattle.acpi_declare.specs.Notes.{Method, methods_by, methods}
use Rattle.acpi_declare.specs.Loads.{AreListings, objects_after}
use Rattle.acpi_pass.proofs.Unions.{path_same}
use Rattle.acpi_places.specs.declared.place.CodePlace.{CodePlace}
use Rattle.acpi_places.specs.Places.{by_path, all_by_path}
use Rattle.acpins_records.specs.steps.Kinds.{links_by, code_by, Suits}

-- ---- what terms declare

-- an object that keeps whatever links and code are asked for
abbrev Keeps : ObjectTree → List NameParts → Option (List ℕ) → Type 0
Keeps o [] None = Unit {0}
Keeps o (n ∷ ns) None = (links : Links) → links_by o links ≡ links
Keeps o [] (Some code) = (c : Option CodePlace) → code_by o c ≡ c
Keeps o (n ∷ ns) (Some code) = ⊥

abbrev Fits : Effect → Type 0
Fits (declares o links code) = Keeps o links code
Fits opens = Unit {0}
Fits (expects count) = Unit {0}

abbrev StepsFit : List Step → Type 0
StepsFit xs = AllByRecursion (λ x. Fits x.effect) xs

abbrev SitesFit : List Site → Type 0
SitesFit xs = AllByRecursion (λ x. Fits x.step.effect) xs

unit_fits : (form : FieldForm) (flags : ℕ) (n : NameParts) (ns : List NameParts) (offset : ℕ) (e : FieldTree) → StepsFit (unit_step form flags (n ∷ ns) offset e)
unit_fits form flags n ns offset (unit s bits) = (λ links. refl, tt)
unit_fits form flags n ns offset _ = tt

units_fit : (form : FieldForm) (flags : ℕ) (n : NameParts) (ns : List NameParts) (offset : ℕ) (es : List FieldTree) → StepsFit (unit_steps form flags (n ∷ ns) offset es)
units_fit form flags n ns offset [] = tt
units_fit form flags n ns offset (e ∷ es) =
    all_append (λ x. Fits x.effect) (unit_step form flags (n ∷ ns) offset e) (unit_steps form flags (n ∷ ns) (offset + element_bits e) es)
    (unit_fits form flags n ns offset e) (units_fit form flags n ns (offset + element_bits e) es)

external_fits : (x : ExternalParts) → StepsFit (external_step x)
external_fits x = by (x.kind == 8)
  where
    by : (b : Bool) → StepsFit (cond b (step x.name (expects x.args) ∷ []) [])
    by true = (tt, tt)
    by false = tt

externals_fit : (xs : List ExternalParts) → StepsFit (external_steps xs)
externals_fit [] = tt
externals_fit (x ∷ xs) = all_append (λ x. Fits x.effect) (external_step x) (external_steps xs) (external_fits x) (externals_fit xs)

scope_fits : (o : Option ObjectTree) → Fits (scope_effect o)
scope_fits None = tt
scope_fits (Some o) = tt

own_fit : (i : ItemTree) → StepsFit (own_steps i)
own_fit (name n d) = (tt, tt)
own_fit (scope kind n is) = (scope_fits (kind_object kind), tt)
own_fit (method n flags code) = (λ c. refl, tt)
own_fit (external x) = external_fits x
own_fit (external_block xs) = externals_fit xs
own_fit (create width source index n) = (λ links. refl, tt)
own_fit (create_field source index bits n) = (λ links. refl, tt)
own_fit (mutex n flags) = (tt, tt)
own_fit (event n) = (tt, tt)
own_fit (region n space offset length) = (tt, tt)
own_fit (field r flags es) = units_fit FieldForm.Field flags r [] 0 es
own_fit (index_field i d flags es) = units_fit FieldForm.Index flags i (d ∷ []) 0 es
own_fit (bank_field r b value flags es) = units_fit (FieldForm.Bank value) flags r (b ∷ []) 0 es

placed_fit : (inside : Option ℕ) (xs : List Step) → StepsFit xs → SitesFit (map (site_in inside) xs)
placed_fit inside [] h = tt
placed_fit inside (x ∷ xs) h = (h.0, placed_fit inside xs h.1)

own_sites_fit : (inside : Option ℕ) (i : ItemTree) → SitesFit (own_sites inside i)
own_sites_fit inside i = placed_fit inside (own_steps i) (own_fit i)

with_inner : (inside : Option ℕ) (i : ItemTree) (inner : List Site) → SitesFit inner → SitesFit (own_sites inside i ++ inner)
with_inner inside i inner h = all_append (λ x. Fits x.step.effect) (own_sites inside i) inner (own_sites_fit inside i) h

mutual
  item_fits : (k : ℕ) (inside : Option ℕ) (i : ItemTree) → SitesFit (item_sites k inside i)
  item_fits k inside (scope kind n is) = with_inner inside (scope kind n is) _ (items_fit (suc k) (Some k) is)
  item_fits k inside (name n d) = own_sites_fit inside (name n d)
  item_fits k inside (method n flags code) = own_sites_fit inside (method n flags code)
  item_fits k inside (external x) = own_sites_fit inside (external x)
  item_fits k inside (external_block xs) = own_sites_fit inside (external_block xs)
  item_fits k inside (create width source index n) = own_sites_fit inside (create width source index n)
  item_fits k inside (create_field source index bits n) = own_sites_fit inside (create_field source index bits n)
  item_fits k inside (mutex n flags) = own_sites_fit inside (mutex n flags)
  item_fits k inside (event n) = own_sites_fit inside (event n)
  item_fits k inside (region n space offset length) = own_sites_fit inside (region n space offset length)
  item_fits k inside (field r flags es) = own_sites_fit inside (field r flags es)
  item_fits k inside (index_field i d flags es) = own_sites_fit inside (index_field i d flags es)
  item_fits k inside (bank_field r b value flags es) = own_sites_fit inside (bank_field r b value flags es)

  items_fit : (k : ℕ) (inside : Option ℕ) (is : ItemTrees) → SitesFit (items_sites k inside is)
  items_fit k inside no_items = tt
  items_fit k inside (item i is) =
      all_append (λ x. Fits x.step.effect) (item_sites k inside i) (items_sites (k + length (item_sites k inside i)) inside is)
      (item_fits k inside i) (items_fit (k + length (item_sites k inside i)) inside is)

-- ---- what is declared stays

-- whatever one namespace has the other has too
abbrev Includes : Namespace → Namespace → Type 0
Includes n m = (p : List Segment) (o : ObjectTree) → n p ≡ Some o → m p ≡ Some o

first_kept : (n m : Namespace) → Includes n (union n m)
first_kept n m p o h = ap (λ (a : Option ObjectTree). option_or a (m p)) h

both_kept : (n a b final : Namespace) → Includes (union n (union a b)) final → Includes (union (union n a) b) final
both_kept n a b final h p o e = h p o (by (n p) (a p) ∙ e)
  where
    by : (x y : Option ObjectTree) → option_or x (option_or y (b p)) ≡ option_or (option_or x y) (b p)
    by None y = refl
    by (Some x) y = refl

after_kept : (n : Namespace) (ts : List (List Placement)) → Includes n (objects_after n ts)
after_kept n [] p o h = h
after_kept n (t ∷ ts) p o h = after_kept (union n (objects_of t)) ts p o (first_kept n (objects_of t) p o h)

stands_alone : (n : Namespace) (p : List Segment) (o : ObjectTree) → n p ≡ None → union n (singleton p o) p ≡ Some o
stands_alone n p o free =
    ap (λ (a : Option ObjectTree). option_or a (singleton p o p)) free ∙ ap (λ (b : Bool). cond b (Some o) None) (path_itself p)

-- ---- where links and code are

module _ (final : Namespace) where
  -- an object that keeps its code stands there
  abbrev HasCode : List Segment → Type 0
  HasCode p = (o : ObjectTree) × (final p ≡ Some o) × ((c : Option CodePlace) → code_by o c ≡ c)

  abbrev HasLinks : List Segment → Type 0
  HasLinks p = (o : ObjectTree) × (final p ≡ Some o) × ((links : Links) → links_by o links ≡ links)

  abbrev AreMethods : List Method → Type 0
  AreMethods ms = AllByRecursion (λ m. HasCode m.path) ms

  abbrev AreLinked : List PendingLink → Type 0
  AreLinked ws = AllByRecursion (λ w. HasLinks w.path) ws

  declared_kept : (o : ObjectTree) (links : List NameParts) (code : Option (List ℕ)) (s p : List Segment) → Keeps o links code → final p ≡ Some o
      → AreMethods (methods_by (declares o links code) p) × AreLinked (pending_by (declares o links code) s p)
  declared_kept o [] None s p h there = (tt, tt)
  declared_kept o (n ∷ ns) None s p h there = (tt, ((o, there, h), tt))
  declared_kept o [] (Some code) s p h there = (((o, there, h), tt), tt)
  declared_kept o (n ∷ ns) (Some code) s p h there = absurd h

  step_kept : (n : Namespace) (d : Effect) (s : List Segment) (ns : NameParts) (p : List Segment) → Fits d → IsPlaced d n s ns p → Includes (union n (object_by d p)) final
      → AreMethods (methods_by d p) × AreLinked (pending_by d s p)
  step_kept n (declares o links code) s ns p h placed kept = declared_kept o links code s p h (kept p o (stands_alone n p o placed.free))
  step_kept n opens s ns p h placed kept = (tt, tt)
  step_kept n (expects count) s ns p h placed kept = (tt, tt)

  table_kept : (n : Namespace) (before : List (List Segment)) (xs : List Site) (es : List Placement) → IsJustified n before xs es → SitesFit xs → Includes (union n (objects_of es)) final
      → AreMethods (methods es) × AreLinked (pending_links es)
  table_kept n before [] [] h fit kept = (tt, tt)
  table_kept n before [] (e ∷ es) h fit kept = absurd h
  table_kept n before (x ∷ xs) [] h fit kept = absurd h
  table_kept n before (x ∷ xs) (e ∷ es) h fit kept =
      let later : Includes (union (union n (object_of e)) (objects_of es)) final = both_kept n (object_of e) (objects_of es) final kept in
      let here : Includes (union n (object_of e)) final = λ p o there. later p o (first_kept (union n (object_of e)) (objects_of es) p o there) in
      let one = step_kept n e.step.effect e.scope e.step.name e.path (subst (λ (y : Step). Fits y.effect) (sym h.0) fit.0) h.2 here in
      let more = table_kept (union n (object_of e)) (before ++ e.path ∷ []) xs es h.3 fit.1 later in (
        all_append (λ m. HasCode m.path) (methods_by e.step.effect e.path) (methods es) one.0 more.0,
        all_append (λ w. HasLinks w.path) (pending_by e.step.effect e.scope e.path) (pending_links es) one.1 more.1,
      )

  tables_kept : (depth k : ℕ) (n : Namespace) (bs : List (List ℕ)) (ts : List (List Placement)) → AreListings depth k n bs ts → Includes (objects_after n ts) final
      → AllByRecursion (λ t. AreMethods (methods t)) ts × AreLinked (all_pending ts)
  tables_kept depth k n [] [] h kept = (tt, tt)
  tables_kept depth k n [] (t ∷ ts) h kept = absurd h
  tables_kept depth k n (b ∷ bs) [] h kept = absurd h
  tables_kept depth k n (b ∷ bs) (t ∷ ts) h kept =
      let here : Includes (union n (objects_of t)) final = λ p o there. kept p o (after_kept (union n (objects_of t)) ts p o there) in
      let one = table_kept n [] (sites h.0.0) t h.0.2 (items_fit 0 None h.0.0) here in
      let more = tables_kept depth (suc k) (union n (objects_of t)) bs ts h.1 kept in
      ((one.0, more.0), all_append (λ w. HasLinks w.path) (pending_links t) (all_pending ts) one.1 more.1)

  -- a value of a union is one of the two
  of_union : {V : Type 0} (P : Type 0) (a b : Option V) (v : V) → option_or a b ≡ Some v → (a ≡ Some v → P) → (b ≡ Some v → P) → P
  of_union P None b v e first second = second e
  of_union P (Some x) b v e first second = first e

  at_single : {V : Type 0} (H : List Segment → Type 0) (p q : List Segment) (x v : V) → H p → singleton p x q ≡ Some v → H q
  at_single H p q x v h e = by (is_same_path q p) refl e
    where
      by : (b : Bool) → is_same_path q p ≡ b → cond b (Some x) None ≡ Some v → H q
      by true same e = subst H (sym (path_same q p same)) h
      by false same e = absurd (cc)

  code_there : (ms : List Method) (cs : List CodePlace) (p : List Segment) (c : CodePlace) → AreMethods ms → by_path ms cs p ≡ Some c → HasCode p
  code_there [] cs p c h e = absurd (cc)
  code_there (m ∷ ms) [] p c h e = absurd (cc)
  code_there (m ∷ ms) (d ∷ cs) p c h e =
      of_union (HasCode p) (singleton m.path d p) (by_path ms cs p) c e (λ here. at_single HasCode m.path p d c h.0 here) (λ later. code_there ms cs p c h.1 later)

  codes_there : (ts : List (List Placement)) (css : List (List CodePlace)) (p : List Segment) (c : CodePlace) → AllByRecursion (λ t. AreMethods (methods t)) ts → all_by_path ts css p ≡ Some c
      → HasCode p
  codes_there [] css p c h e = absurd (cc)
  codes_there (t ∷ ts) [] p c h e = absurd (cc)
  codes_there (t ∷ ts) (cs ∷ css) p c h e =
      of_union (HasCode p) (by_path (methods t) cs p) (all_by_path ts css p) c e (λ here. code_there (methods t) cs p c h.0 here) (λ later. codes_there ts css p c h.1 later)

  links_there : (objects : Namespace) (ws : List PendingLink) (p : List Segment) (l : Links) → AreLinked ws → links_of objects ws p ≡ Some l → HasLinks p
  links_there objects [] p l h e = absurd (cc)
  links_there objects (w ∷ ws) p l h e =
      of_union (HasLinks p) (links_of objects ws p) (one_link objects w p) l e (λ later. links_there objects ws p l h.1 later)
      (λ here. at_single HasLinks w.path p (answers objects w.scope w.names) l h.0 here)

-- ---- an object of the load

no_code : (o : ObjectTree) → code_by o None ≡ None
no_code (method_object flags) = refl
no_code _ = refl

no_links : (o : ObjectTree) → links_by o [] ≡ []
no_links (field_object form flags offset bits) = refl
no_links (create_object width index) = refl
no_links (create_field_object index bits) = refl
no_links _ = refl

same_object : (o q : ObjectTree) (a : Option ObjectTree) → a ≡ Some o → a ≡ Some q → o ≡ q
same_object o q a h k = cc

module _ (depth : ℕ) (tables : List (List ℕ)) (ts : List (List Placement)) (css : List (List CodePlace)) (listings : AreListings depth 0 predefined tables ts) where
  abbrev final_objects : Namespace
  final_objects = objects_after predefined ts

  kept : AllByRecursion (λ t. AreMethods final_objects (methods t)) ts × AreLinked final_objects (all_pending ts)
  kept = tables_kept final_objects depth 0 predefined tables ts listings (λ p o h. h)

  code_suits : (p : List Segment) (o : ObjectTree) (a : Option CodePlace) → final_objects p ≡ Some o → all_by_path ts css p ≡ a → a ≡ code_by o a
  code_suits p o None there e = sym (no_code o)
  code_suits p o (Some c) there e =
      let has = codes_there final_objects ts css p c kept.0 e in
      subst (λ q. Some c ≡ code_by q (Some c)) (same_object has.0 o (final_objects p) has.1 there) (sym (has.2 (Some c)))

  links_suit : (p : List Segment) (o : ObjectTree) (a : Option Links) → final_objects p ≡ Some o → links_of final_objects (all_pending ts) p ≡ a → unwrap_or a [] ≡ links_by o (unwrap_or a [])
  links_suit p o None there e = sym (no_links o)
  links_suit p o (Some l) there e =
      let has = links_there final_objects final_objects (all_pending ts) p l kept.1 e in
      subst (λ q. l ≡ links_by q l) (same_object has.0 o (final_objects p) has.1 there) (sym (has.2 l))

  pub object_suits : (p : List Segment) (o : ObjectTree) → final_objects p ≡ Some o → Suits (links_of final_objects (all_pending ts)) (all_by_path ts css) p o
  object_suits p o there = record { links_are = links_suit p o _ there refl; code_is = code_suits p o _ there refl }
