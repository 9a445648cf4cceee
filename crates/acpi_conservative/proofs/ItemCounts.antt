-- The counts of the entries of strict items, where nothing is refused.
use Rattle.std.proofs.Common.{is_ok, ◌≡◌, ◌==◌, ◌-◌, ◌+◌, ◌%◌, ℕ, Bool, true, false, true≢false, cond, List, [], ◌∷◌, ◌++◌, append-nil, append_assoc, length, Option, Some, Result, Ok, Err, inl, inr, refl, sym, ap, subst, ◌∙◌}
use Rattle.std.specs.List.{flat_map}
use Rattle.acpi_name.specs.Names.{NameParts}
use Rattle.acpi_tree.specs.declared.object.FieldForm.{FieldForm}
use Rattle.acpi_tree.specs.Tree.{ExternalParts, FieldTree, unit}
use Rattle.acpi_tree.specs.declared.tree.ScopeKind.TheVariants as kinds
use Rattle.acpi_tree.specs.Tree.{ItemTree, name, scope, method, external, external_block, create, create_field, mutex, event, region, field, index_field, bank_field, ItemTrees, no_items, item}
use Rattle.acpi_tree.specs.Offsets.{element_bits}
use Rattle.acpi_tree.specs.Objects.{args_of}
use Rattle.acpi_tree.specs.declared.tree.Int.TheVariants.{Zero}
use Rattle.acpi_tree.specs.Terms as terms
use Rattle.acpi_tree.specs.Terms.{TermTree, TermTrees, declare, no_terms, more, raw}
use Rattle.acpi_tree.specs.declared.place.NamedForm.{NamedForm}
use Rattle.acpi_tree.specs.declared.place.NamedForm.TheVariants as named
use Rattle.acpi_tree.specs.declared.place.UnitsForm.TheVariants as fields
use Rattle.acpi_declare.specs.Sites.{Effect, declares, opens, expects, Step, step, kind_object, scope_effect, own_steps, unit_steps, external_steps}
use Rattle.acpi_outline.specs.declared.form.ContainerForm.{ContainerForm}
use Rattle.acpi_outline.specs.declared.form.ContainerForm.TheVariants as containers
use Rattle.acpi_outline.specs.Nodes as outline
use Rattle.acpi_outline.specs.Nodes.{FixedTree, container, if_so, units, FieldNodes, no_more_fields, field_node, NodeTree, plain, holds, holds_fields, closed, NodeTrees, no_more, node}
use Rattle.acpi_outline.specs.Rules.{after, after_all, after_fields}
use Rattle.acpi_outline.specs.Outline.{IsNode, AreNodes}
use Rattle.acpi_tree.specs.DataTerms.{data_term}
use Rattle.acpi_conservative.specs.StrictNodes.{AreExternals, AreFieldsOf, IsItem, AreItems}
use Rattle.acpi_conditions.specs.Nodes.{Term}
use Rattle.acpi_conditions.specs.Entries.{Path, Why, Refusal}
use Rattle.acpi_conditions.specs.Known.{declared_at, opened_at}
use Rattle.acpi_conditions.specs.Survey.{declaring_as, empty_survey}
use Rattle.acpi_conditions.specs.Walk as walks
use Rattle.acpi_conditions.specs.Walk.{Walk, Package, leave_from, passed, enter_term_as, enter_scope_as, through}
use Rattle.acpi_conditions.proofs.Basics.{append_nothing}
use Rattle.acpi_needs.specs.Needs.{names_in_all, names_before}
use Rattle.acpi_survey.specs.Nodes.{term_at, unit_at, operands_of}
use Rattle.acpi_survey.specs.Reading.{Reading, survey_rules, declaring, entering, begin_fields, expecting, after_field, enter, leave}

-- ---- what items count

abbrev pub counted_by : Effect → List (Option ℕ)
counted_by (declares o links code) = Some (args_of o) ∷ []
counted_by opens = []
counted_by (expects count) = []

abbrev pub counted : List Step → List (Option ℕ)
counted xs = flat_map (λ (x : Step). counted_by x.effect) xs

abbrev mutual
  pub counted_in : ItemTree → List (Option ℕ)
  counted_in (scope kind n is) = counted_by (scope_effect (kind_object kind)) ++ all_counted is
  counted_in i = counted (own_steps i)

  pub all_counted : ItemTrees → List (Option ℕ)
  all_counted no_items = []
  all_counted (item i is) = counted_in i ++ all_counted is

-- ---- one state behind another, with these counts more, where nothing is refused by then

abbrev pub Counts : Reading → Reading → List (Option ℕ) → Type 0
Counts s s' cs = s'.walk.refused ≡ [] → (s.walk.refused ≡ []) × (s'.counts ≡ s.counts ++ cs)

pub two_counts : (s m s' : Reading) (xs ys : List (Option ℕ)) → Counts s m xs → Counts m s' ys → Counts s s' (xs ++ ys)
two_counts s m s' xs ys f g r =
    let later = g r in
    let here = f later.0 in
    (here.0, later.1 ∙ ap (λ (cs : List (Option ℕ)). cs ++ ys) here.1 ∙ append_assoc s.counts xs ys)

pub counts_none : (s s' : Reading) → s'.walk.refused ≡ s.walk.refused → s'.counts ≡ s.counts → Counts s s' []
counts_none s s' refused counts r = (sym refused ∙ r, counts ∙ sym (append-nil s.counts))

no_more_counts : (s s' : Reading) (cs : List (Option ℕ)) → Counts s s' (cs ++ []) → Counts s s' cs
no_more_counts s s' cs h = subst (Counts s s') (append-nil cs) h

refused_some : (rs : List Refusal) (r : Refusal) → rs ++ r ∷ [] ≡ [] → ⊥
refused_some rs r e = let h : r ∷ [] ≡ [] = (append_nothing rs (r ∷ []) e).1 in cc

leaves_refused : (w : Walk) → (walks.leave w).refused ≡ w.refused
leaves_refused w = by w.packages
  where
    by : (ps : List Package) → (leave_from ps w).refused ≡ w.refused
    by [] = refl
    by (p ∷ ps) = refl

leaves : (s : Reading) → Counts s (leave s) []
leaves s = counts_none s (leave s) (leaves_refused s.walk) refl

-- ---- terms

counts_term : (t : Term) (c : Option ℕ) (s : Reading) → Counts s (declaring t c s) (c ∷ [])
counts_term t c s = by (declared_at s.walk.known s.walk.around.scope t.name)
  where
    by : (q : Result Path Why) → s.walk.refused ++ (declaring_as t empty_survey s.walk.around s.walk.known q).refused ≡ []
        → (s.walk.refused ≡ []) × (cond (is_ok q) (s.counts ++ c ∷ []) s.counts ≡ s.counts ++ c ∷ [])
    by (Ok p) r = (sym (append-nil s.walk.refused) ∙ r, refl)
    by (Err why) r = absurd (refused_some s.walk.refused (record { place = t.place; why = why }) r)

enters_term : (t : Term) (s : Reading) → Counts s (entering t s) (Some 0 ∷ [])
enters_term t s = by (declared_at s.walk.known s.walk.around.scope t.name)
  where
    by : (q : Result Path Why) → (enter_term_as t s.walk q).refused ≡ []
        → (s.walk.refused ≡ []) × (cond (is_ok q) (s.counts ++ Some 0 ∷ []) s.counts ≡ s.counts ++ Some 0 ∷ [])
    by (Ok p) r = (r, refl)
    by (Err why) r = absurd (refused_some s.walk.refused (record { place = t.place; why = why }) r)

-- a term that isn't gone into is refused
closed_term : (t : Term) (s : Reading) → is_ok (declared_at s.walk.known s.walk.around.scope t.name) ≡ false → (declaring t (Some 0) s).walk.refused ≡ [] → ⊥
closed_term t s = by (declared_at s.walk.known s.walk.around.scope t.name)
  where
    by : (q : Result Path Why) → is_ok q ≡ false → s.walk.refused ++ (declaring_as t empty_survey s.walk.around s.walk.known q).refused ≡ [] → ⊥
    by (Ok p) is r = true≢false is
    by (Err why) is r = refused_some s.walk.refused (record { place = t.place; why = why }) r

-- ---- Scopes

enters_scope : (place : ℕ) (n : NameParts) (s : Reading) → Counts s (enter s place (outline.scope n)) []
enters_scope place n s = by (opened_at s.walk.known s.walk.around.scope n)
  where
    by : (q : Result Path Why) → (enter_scope_as (s.base + place) s.walk q).refused ≡ [] → (s.walk.refused ≡ []) × (s.counts ≡ s.counts ++ [])
    by (Ok p) r = (r, sym (append-nil s.counts))
    by (Err why) r = absurd (refused_some s.walk.refused (record { place = s.base + place; why = why }) r)

closed_scope : (place : ℕ) (n : NameParts) (s : Reading) → is_ok (opened_at s.walk.known s.walk.around.scope n) ≡ false
    → (walks.walked_scope (s.base + place) n (λ w. w) s.walk).refused ≡ [] → ⊥
closed_scope place n s = by (opened_at s.walk.known s.walk.around.scope n)
  where
    by : (q : Result Path Why) → is_ok q ≡ false → (through q (λ w. w) (enter_scope_as (s.base + place) s.walk q)).refused ≡ [] → ⊥
    by (Ok p) is r = true≢false is
    by (Err why) is r = refused_some s.walk.refused (record { place = s.base + place; why = why }) r

-- ---- field lists

counts_fields : (f : FixedTree) (form : FieldForm) (flags : ℕ) (links : List NameParts) (offset : ℕ) (es : List FieldTree) (us : FieldNodes) → AreFieldsOf es us
    → (s : Reading) → Counts s (after_fields survey_rules s f us) (counted (unit_steps form flags links offset es))
counts_fields f form flags links offset [] us h s = subst (λ (us : FieldNodes). Counts s (after_fields survey_rules s f us) []) (sym h) (counts_none s s refl refl)
counts_fields f form flags links offset (e ∷ es) us (place, first_bit, rest, is, h) s =
    subst (λ (us : FieldNodes). Counts s (after_fields survey_rules s f us) (counted (unit_steps form flags links offset (e ∷ es)))) (sym is) (one_field e (λ next m. counts_fields f form flags links next es rest h m))
  where
    one_field : (e : FieldTree) → ((next : ℕ) (m : Reading) → Counts m (after_fields survey_rules m f rest) (counted (unit_steps form flags links next es))) → Counts s (after_fields survey_rules s f (field_node place first_bit e rest)) (counted (unit_steps form flags links offset (e ∷ es)))
    one_field (unit g bits) behind =
        let m : Reading = after_field s place f (unit g bits) in
        two_counts s m (after_fields survey_rules m f rest) (Some 0 ∷ []) (counted (unit_steps form flags links (offset + element_bits (unit g bits)) es))
        (counts_term (unit_at (s.base + place) g (operands_of f)) (Some 0) s) (behind (offset + element_bits (unit g bits)) m)
    one_field e behind =
        let m : Reading = after_field s place f e in
        two_counts s m (after_fields survey_rules m f rest) [] (counted (unit_steps form flags links (offset + element_bits e) es))
        (counts_none s m refl refl) (behind (offset + element_bits e) m)

-- ---- Externals

counts_externals : (xs : List ExternalParts) (ns : NodeTrees) → AreExternals xs ns → (s : Reading) → Counts s (after_all survey_rules s ns) []
counts_externals [] ns h s = subst (λ (ns : NodeTrees). Counts s (after_all survey_rules s ns) []) (sym h) (counts_none s s refl refl)
counts_externals (x ∷ xs) ms (place, ns, is, h) s =
    let m : Reading = expecting x s in
    subst (λ (ms : NodeTrees). Counts s (after_all survey_rules s ms) []) (sym is)
    (two_counts s m (after_all survey_rules m ns) [] [] (counts_none s m refl refl) (counts_externals xs ns h m))

-- ---- items

abbrev ItemCounts : ItemTree → NodeTree → Type 0
ItemCounts i n = (level place end : ℕ) (s : Reading) (bytes : List ℕ) → IsNode survey_rules level place end s n bytes → Counts s (after survey_rules place s n) (counted_in i)

abbrev pub AllCounted : ItemTrees → NodeTrees → Type 0
AllCounted is ns = (level end : ℕ) (s : Reading) (bytes : List ℕ) → AreNodes survey_rules level end s ns bytes → Counts s (after_all survey_rules s ns) (all_counted is)

container_counts : (form : ContainerForm) (n : NameParts) (vs : TermTrees) (is : ItemTrees) (ms : NodeTrees) → AllCounted is ms
    → (level place end : ℕ) (s : Reading) (bytes : List ℕ) → IsNode survey_rules level place end s (holds (container form n vs) ms) bytes
    → Counts s (after survey_rules place s (holds (container form n vs) ms)) (Some 0 ∷ all_counted is)
container_counts form n vs is ms inside level place end s bytes (a, b, is_fixed, goes, are, packs) =
    let m : Reading = enter s place (container form n vs) in
    let u : Reading = after_all survey_rules m ms in
    two_counts s m (leave u) (Some 0 ∷ []) (all_counted is) (enters_term (term_at (s.base + place) n true []) s)
    (no_more_counts m (leave u) (all_counted is) (two_counts m u (leave u) (all_counted is) [] (inside level end m b are) (leaves u)))

container_closed : (form : ContainerForm) (n : NameParts) (vs : TermTrees) (content : List ℕ) (cs : List (Option ℕ))
    → (level place end : ℕ) (s : Reading) (bytes : List ℕ) → IsNode survey_rules level place end s (closed (container form n vs) content) bytes
    → Counts s (after survey_rules place s (closed (container form n vs) content)) cs
container_closed form n vs content cs level place end s bytes is_node r = absurd (closed_term (term_at (s.base + place) n true []) s is_node.2 r)

scope_counts : (n : NameParts) (is : ItemTrees) (ms : NodeTrees) → AllCounted is ms → ItemCounts (scope kinds.Scope n is) (holds (outline.scope n) ms)
scope_counts n is ms inside level place end s bytes (a, b, is_fixed, goes, are, packs) =
    let m : Reading = enter s place (outline.scope n) in
    let u : Reading = after_all survey_rules m ms in
    two_counts s m (leave u) [] (all_counted is) (enters_scope place n s)
    (no_more_counts m (leave u) (all_counted is) (two_counts m u (leave u) (all_counted is) [] (inside level end m b are) (leaves u)))

scope_closed : (n : NameParts) (is : ItemTrees) (content : List ℕ) → ItemCounts (scope kinds.Scope n is) (closed (outline.scope n) content)
scope_closed n is content level place end s bytes is_node r = absurd (closed_scope place n s is_node.2 r)

block_counts : (xs : List ExternalParts) (v : TermTree) (ms : NodeTrees) → AreExternals xs ms → (place : ℕ) (s : Reading) → Counts s (after survey_rules place s (holds (if_so v) ms)) []
block_counts xs v ms h place s =
    let m : Reading = enter s place (if_so v) in
    let u : Reading = after_all survey_rules m ms in
    two_counts s m (leave u) [] [] (counts_none s m refl refl) (two_counts m u (leave u) [] [] (counts_externals xs ms h m) (leaves u))

externals_count_none : (xs : List ExternalParts) → counted (own_steps (external_block xs)) ≡ []
externals_count_none [] = refl
externals_count_none (x ∷ xs) = one_none (x.kind == 8) (externals_count_none xs)
  where
    one_none : (b : Bool) → counted (external_steps xs) ≡ [] → counted (cond b (step x.name (expects x.args) ∷ []) [] ++ external_steps xs) ≡ []
    one_none true rest = rest
    one_none false rest = rest

external_counts_none : (x : ExternalParts) → counted (own_steps (external x)) ≡ []
external_counts_none x = by (x.kind == 8)
  where
    by : (b : Bool) → counted (cond b (step x.name (expects x.args) ∷ []) []) ≡ []
    by true = refl
    by false = refl

declaration_counts : (i : ItemTree) (form : NamedForm) (before : TermTrees) (n : NameParts) (behind : TermTrees) → counted_in i ≡ Some 0 ∷ []
    → ItemCounts i (plain (outline.term (declare form before n behind)))
declaration_counts i form before n behind is level place end s bytes is_node =
    let t : Term = term_at (s.base + place) n false (names_before before ++ names_in_all behind) in
    subst (Counts s (declaring t (Some 0) s)) (sym is) (counts_term t (Some 0) s)

counts_list : (f : FixedTree) (form : FieldForm) (flags : ℕ) (links : List NameParts) (es : List FieldTree) (us : FieldNodes) → AreFieldsOf es us
    → (place : ℕ) (s : Reading) → Counts s (after_fields survey_rules (begin_fields s place f) f us) (counted (unit_steps form flags links 0 es))
counts_list f form flags links es us h place s =
    let m : Reading = begin_fields s place f in
    two_counts s m (after_fields survey_rules m f us) [] (counted (unit_steps form flags links 0 es))
    (counts_none s m refl refl) (counts_fields f form flags links 0 es us h m)

one_more : (i : ItemTree) (is : ItemTrees) (place : ℕ) (n : NodeTree) (ns : NodeTrees) → ItemCounts i n → AllCounted is ns → AllCounted (item i is) (node place n ns)
one_more i is place n ns here behind level end s bytes (a, b, inside, levels, at, is_node, are, whole) =
    let m : Reading = after survey_rules place s n in
    two_counts s m (after_all survey_rules m ns) (counted_in i) (all_counted is) (here inside place (end - length b) s a is_node) (behind level end m b are)

mutual
  item_counts : (i : ItemTree) (m : NodeTree) → IsItem i m → ItemCounts i m
  item_counts (name n d) m h = subst (ItemCounts (name n d)) (sym h) (declaration_counts (name n d) named.Name no_terms n (more (data_term d) no_terms) refl)
  item_counts (scope kinds.Scope n is) m (inl (ms, e, h)) = subst (ItemCounts (scope kinds.Scope n is)) (sym e) (scope_counts n is ms (items_counted is ms h))
  item_counts (scope kinds.Scope n is) m (inr (b, e, h)) = subst (ItemCounts (scope kinds.Scope n is)) (sym e) (scope_closed n is b)
  item_counts (scope kinds.Device n is) m (inl (ms, e, h)) = subst (ItemCounts (scope kinds.Device n is)) (sym e) (container_counts containers.Device n no_terms is ms (items_counted is ms h))
  item_counts (scope kinds.Device n is) m (inr (b, e, h)) = subst (ItemCounts (scope kinds.Device n is)) (sym e) (container_closed containers.Device n no_terms b (Some 0 ∷ all_counted is))
  item_counts (scope (kinds.Processor id block len) n is) m (inl (ms, e, h)) = subst (ItemCounts (scope (kinds.Processor id block len) n is)) (sym e) (container_counts containers.Processor n (more (raw 1 id) (more (raw 4 block) (more (raw 1 len) no_terms))) is ms (items_counted is ms h))
  item_counts (scope (kinds.Processor id block len) n is) m (inr (b, e, h)) = subst (ItemCounts (scope (kinds.Processor id block len) n is)) (sym e) (container_closed containers.Processor n (more (raw 1 id) (more (raw 4 block) (more (raw 1 len) no_terms))) b (Some 0 ∷ all_counted is))
  item_counts (scope (kinds.Power deepest order) n is) m (inl (ms, e, h)) = subst (ItemCounts (scope (kinds.Power deepest order) n is)) (sym e) (container_counts containers.Power n (more (raw 1 deepest) (more (raw 2 order) no_terms)) is ms (items_counted is ms h))
  item_counts (scope (kinds.Power deepest order) n is) m (inr (b, e, h)) = subst (ItemCounts (scope (kinds.Power deepest order) n is)) (sym e) (container_closed containers.Power n (more (raw 1 deepest) (more (raw 2 order) no_terms)) b (Some 0 ∷ all_counted is))
  item_counts (scope kinds.Thermal n is) m (inl (ms, e, h)) = subst (ItemCounts (scope kinds.Thermal n is)) (sym e) (container_counts containers.Thermal n no_terms is ms (items_counted is ms h))
  item_counts (scope kinds.Thermal n is) m (inr (b, e, h)) = subst (ItemCounts (scope kinds.Thermal n is)) (sym e) (container_closed containers.Thermal n no_terms b (Some 0 ∷ all_counted is))
  item_counts (method n flags code) m h = subst (ItemCounts (method n flags code)) (sym h) (λ level place end s bytes is_node. counts_term (term_at (s.base + place) n false []) (Some (flags % 8)) s)
  item_counts (external x) m h =
      subst (ItemCounts (external x)) (sym h) (λ level place end s bytes is_node. subst (Counts s (expecting x s)) (sym (external_counts_none x)) (counts_none s (expecting x s) refl refl))
  item_counts (external_block xs) m (inl (ms, e, h)) =
      subst (ItemCounts (external_block xs)) (sym e) (λ level place end s bytes is_node.
      subst (Counts s (after survey_rules place s (holds (if_so (terms.int Zero)) ms))) (sym (externals_count_none xs)) (block_counts xs (terms.int Zero) ms h place s))
  item_counts (external_block xs) m (inr (b, e, h)) = subst (ItemCounts (external_block xs)) (sym e) (λ level place end s bytes is_node. absurd (true≢false is_node.2))
  item_counts (mutex n flags) m h = subst (ItemCounts (mutex n flags)) (sym h) (declaration_counts (mutex n flags) named.Mutex no_terms n _ refl)
  item_counts (event n) m h = subst (ItemCounts (event n)) (sym h) (declaration_counts (event n) named.Event no_terms n no_terms refl)
  item_counts (region n space offset len) m h = subst (ItemCounts (region n space offset len)) (sym h) (declaration_counts (region n space offset len) named.Region no_terms n _ refl)
  item_counts (field n flags es) m (us, e, h) =
      subst (ItemCounts (field n flags es)) (sym e) (λ level place end s bytes is_node. counts_list (units fields.Field (n ∷ []) (more (raw 1 flags) no_terms)) FieldForm.Field flags (n ∷ []) es us h place s)
  item_counts (index_field i k flags es) m (us, e, h) =
      subst (ItemCounts (index_field i k flags es)) (sym e) (λ level place end s bytes is_node. counts_list (units fields.IndexField (i ∷ k ∷ []) (more (raw 1 flags) no_terms)) FieldForm.Index flags (i ∷ k ∷ []) es us h place s)
  item_counts (bank_field n bank value flags es) m (us, e, h) =
      subst (ItemCounts (bank_field n bank value flags es)) (sym e) (λ level place end s bytes is_node. counts_list (units fields.BankField (n ∷ bank ∷ []) (more (terms.int value) (more (raw 1 flags) no_terms))) (FieldForm.Bank value) flags (n ∷ bank ∷ []) es us h place s)
  item_counts (create w source index n) m h = subst (ItemCounts (create w source index n)) (sym h) (declaration_counts (create w source index n) (named.Create w) _ n no_terms refl)
  item_counts (create_field source index bits n) m h = subst (ItemCounts (create_field source index bits n)) (sym h) (declaration_counts (create_field source index bits n) named.CreateField _ n no_terms refl)

  pub items_counted : (is : ItemTrees) (ms : NodeTrees) → AreItems is ms → AllCounted is ms
  items_counted no_items ms h = subst (AllCounted no_items) (sym h) (λ level end s bytes are. counts_none s s refl refl)
  items_counted (item i is) ms (place, n, ns, e, hi, hs) = subst (AllCounted (item i is)) (sym e) (one_more i is place n ns (item_counts i n hi) (items_counted is ns hs))
