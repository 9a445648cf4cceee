-- The listing of a table whose methods have other code: the same scopes and paths, and so the same objects, links and
-- argument counts, and methods at the same paths.
use Rattle.std.proofs.Common.{◌≡◌, ℕ, suc, ◌+◌, Bool, true, false, cond, ◌==◌, List, [], ◌∷◌, ◌++◌, map, length, ◌⊎◌, inl, inr, Option, Some, None, refl, sym, ap, subst, ◌∙◌, append_assoc}
use Rattle.std.proofs.lemmas.List.{map-append, length-map}
use Rattle.acpi_name.specs.Names.{Segment, NameParts}
use Rattle.acpi_space.specs.Lookups.{Lookup, union}
use Rattle.acpi_tree.specs.declared.object.FieldForm.{FieldForm}
use Rattle.acpi_tree.specs.Tree.{FieldTree, unit, ExternalParts, ItemTree, scope, external, external_block, field, index_field, bank_field, ItemTrees, no_items, item}
use Rattle.acpi_tree.specs.Objects.{ObjectTree}
use Rattle.acpi_tree.specs.Offsets.{element_bits}
use Rattle.acpi_declare.specs.Links.{pending_by, pending_links}
use Rattle.acpi_declare.specs.Listing.{Placement, object_by, object_of, objects_of, scope_within, IsJustified}
use Rattle.acpi_declare.specs.Namespace.{Namespace}
use Rattle.acpi_declare.specs.Notes.{counts_by, external_counts, methods_by, methods}
use Rattle.acpi_declare.specs.Notes as notes
use Rattle.acpi_declare.specs.Placing.{IsPlaced}
use Rattle.acpi_declare.specs.Sites.{Effect, declares, opens, expects, Step, step, kind_object, scope_effect, unit_step, unit_steps, external_step, external_steps, own_steps, Site, site_in, own_sites, item_sites, items_sites, sites}
use Rattle.acpi_pass.proofs.SiteCodes.{effect_codes, scope_codes, step_codes, site_codes, sites_appended, units_codes, externals_codes, in_sites}
use Rattle.acpi_rewrite.specs.Rewriting.{item_codes, codes, item_without_code, without_code}

-- ---- sites without code

abbrev pub bare_effect : Effect → Effect
bare_effect (declares o links (Some code)) = declares o links (Some [])
bare_effect d = d

abbrev pub bare_step : Step → Step
bare_step x = record { name = x.name; effect = bare_effect x.effect }

abbrev pub bare_site : Site → Site
bare_site x = record { step = bare_step x.step; inside = x.inside }

bare_unit : (form : FieldForm) (flags : ℕ) (links : List NameParts) (offset : ℕ) (e : FieldTree) → map bare_step (unit_step form flags links offset e) ≡ unit_step form flags links offset e
bare_unit form flags links offset (unit s bits) = refl
bare_unit form flags links offset e = refl

bare_units : (form : FieldForm) (flags : ℕ) (links : List NameParts) (offset : ℕ) (es : List FieldTree)
    → map bare_step (unit_steps form flags links offset es) ≡ unit_steps form flags links offset es
bare_units form flags links offset [] = refl
bare_units form flags links offset (e ∷ es) =
    let here = unit_step form flags links offset e in
    let later = unit_steps form flags links (offset + element_bits e) es in
    map-append bare_step here later ∙ ap (λ (xs : List Step). xs ++ map bare_step later) (bare_unit form flags links offset e)
    ∙ ap (λ (xs : List Step). here ++ xs) (bare_units form flags links (offset + element_bits e) es)

bare_external : (x : ExternalParts) → map bare_step (external_step x) ≡ external_step x
bare_external x = by (x.kind == 8)
  where
    by : (b : Bool) → map bare_step (cond b (step x.name (expects x.args) ∷ []) []) ≡ cond b (step x.name (expects x.args) ∷ []) []
    by true = refl
    by false = refl

bare_externals : (xs : List ExternalParts) → map bare_step (external_steps xs) ≡ external_steps xs
bare_externals [] = refl
bare_externals (x ∷ xs) =
    map-append bare_step (external_step x) (external_steps xs) ∙ ap (λ (ys : List Step). ys ++ map bare_step (external_steps xs)) (bare_external x)
    ∙ ap (λ (ys : List Step). external_step x ++ ys) (bare_externals xs)

bare_scope : (o : Option ObjectTree) → bare_effect (scope_effect o) ≡ scope_effect o
bare_scope None = refl
bare_scope (Some o) = refl

own_bare : (i : ItemTree) → own_steps (item_without_code i) ≡ map bare_step (own_steps i)
own_bare (scope kind n is) = ap (λ (d : Effect). step n d ∷ []) (sym (bare_scope (kind_object kind)))
own_bare (external x) = sym (bare_external x)
own_bare (external_block xs) = sym (bare_externals xs)
own_bare (field r flags es) = sym (bare_units FieldForm.Field flags (r ∷ []) 0 es)
own_bare (index_field i d flags es) = sym (bare_units FieldForm.Index flags (i ∷ d ∷ []) 0 es)
own_bare (bank_field r b value flags es) = sym (bare_units (FieldForm.Bank value) flags (r ∷ b ∷ []) 0 es)
own_bare i = refl

map_twice : (inside : Option ℕ) (xs : List Step) → map (site_in inside) (map bare_step xs) ≡ map bare_site (map (site_in inside) xs)
map_twice inside [] = refl
map_twice inside (x ∷ xs) = ap (λ (ys : List Site). bare_site (site_in inside x) ∷ ys) (map_twice inside xs)

own_sites_bare : (inside : Option ℕ) (i : ItemTree) → own_sites inside (item_without_code i) ≡ map bare_site (own_sites inside i)
own_sites_bare inside i = ap (map (site_in inside)) (own_bare i) ∙ map_twice inside (own_steps i)

joined : (xs xs' ys ys' : List Site) → xs' ≡ map bare_site xs → ys' ≡ map bare_site ys → xs' ++ ys' ≡ map bare_site (xs ++ ys)
joined xs xs' ys ys' a b = ap (λ (zs : List Site). zs ++ ys') a ∙ ap (λ (zs : List Site). map bare_site xs ++ zs) b ∙ sym (map-append bare_site xs ys)

mutual
  item_sites_bare : (i : ItemTree) (k : ℕ) (inside : Option ℕ) → item_sites k inside (item_without_code i) ≡ map bare_site (item_sites k inside i)
  item_sites_bare (scope kind n is) k inside = joined (own_sites inside (scope kind n is)) _ _ _ (own_sites_bare inside (scope kind n is)) (sites_bare is (suc k) (Some k))
  item_sites_bare i k inside = own_sites_bare inside i

  sites_bare : (is : ItemTrees) (k : ℕ) (inside : Option ℕ) → items_sites k inside (without_code is) ≡ map bare_site (items_sites k inside is)
  sites_bare no_items k inside = refl
  sites_bare (item i is) k inside =
      let here = item_sites_bare i k inside in
      let as_many : length (item_sites k inside (item_without_code i)) ≡ length (item_sites k inside i) = ap length here ∙ length-map (item_sites k inside i) bare_site in
      joined (item_sites k inside i) _ (items_sites (k + length (item_sites k inside i)) inside is) _ here
      (ap (λ n. items_sites (k + n) inside (without_code is)) as_many ∙ sites_bare is (k + length (item_sites k inside i)) inside)

pub sites_alike : (is js : ItemTrees) → without_code js ≡ without_code is → map bare_site (sites js) ≡ map bare_site (sites is)
sites_alike is js e = sym (sites_bare js 0 None) ∙ ap sites e ∙ sites_bare is 0 None

-- ---- the code of sites

steps_appended : (xs ys : List Step) → step_codes (xs ++ ys) ≡ step_codes xs ++ step_codes ys
steps_appended [] ys = refl
steps_appended (x ∷ xs) ys = ap (λ (cs : List (List ℕ)). effect_codes x.effect ++ cs) (steps_appended xs ys) ∙ sym (append_assoc (effect_codes x.effect) (step_codes xs) (step_codes ys))

external_alone : (x : ExternalParts) → step_codes (external_step x) ≡ []
external_alone x = by (x.kind == 8)
  where
    by : (b : Bool) → step_codes (cond b (step x.name (expects x.args) ∷ []) []) ≡ []
    by true = refl
    by false = refl

mutual
  item_sites_codes : (i : ItemTree) (k : ℕ) (inside : Option ℕ) → site_codes (item_sites k inside i) ≡ item_codes i
  item_sites_codes (scope kind n is) k inside = ap (λ (cs : List (List ℕ)). cs ++ site_codes (items_sites (suc k) (Some k) is)) (scope_codes (kind_object kind)) ∙ sites_codes is (suc k) (Some k)
  item_sites_codes (external x) k inside = in_sites inside (external_step x) ∙ external_alone x
  item_sites_codes (external_block xs) k inside = in_sites inside (external_steps xs) ∙ externals_codes xs
  item_sites_codes (field r flags es) k inside = in_sites inside (unit_steps FieldForm.Field flags (r ∷ []) 0 es) ∙ units_codes FieldForm.Field flags (r ∷ []) 0 es
  item_sites_codes (index_field i d flags es) k inside = in_sites inside (unit_steps FieldForm.Index flags (i ∷ d ∷ []) 0 es) ∙ units_codes FieldForm.Index flags (i ∷ d ∷ []) 0 es
  item_sites_codes (bank_field r b value flags es) k inside = in_sites inside (unit_steps (FieldForm.Bank value) flags (r ∷ b ∷ []) 0 es)
      ∙ units_codes (FieldForm.Bank value) flags (r ∷ b ∷ []) 0 es
  item_sites_codes i k inside = refl

  sites_codes : (is : ItemTrees) (k : ℕ) (inside : Option ℕ) → site_codes (items_sites k inside is) ≡ codes is
  sites_codes no_items k inside = refl
  sites_codes (item i is) k inside =
      let here = item_sites k inside i in
      let later = items_sites (k + length here) inside is in
      sites_appended here later ∙ ap (λ (cs : List (List ℕ)). cs ++ site_codes later) (item_sites_codes i k inside)
      ∙ ap (λ (cs : List (List ℕ)). item_codes i ++ cs) (sites_codes is (k + length here) inside)

pub table_codes : (is : ItemTrees) → site_codes (sites is) ≡ codes is
table_codes is = sites_codes is 0 None

-- ---- effects that differ in code alone

abbrev IsMethod : Effect → Effect → Type 0
IsMethod d d' = (o : ObjectTree) × (links : List NameParts) × (code : List ℕ) × (code' : List ℕ) × (d ≡ declares o links (Some code)) × (d' ≡ declares o links (Some code'))

-- they are the same and have no code, or they declare one object with code
abbrev Alike : Effect → Effect → Type 0
Alike d d' = ((d' ≡ d) × (effect_codes d ≡ [])) ⊎ IsMethod d d'

alike : (d d' : Effect) → bare_effect d' ≡ bare_effect d → Alike d d'
alike (declares o links None) (declares o' links' None) e = inl (e, refl)
alike (declares o links (Some code)) (declares o' links' (Some code')) e =
    inr (
      o,
      links,
      code,
      code',
      refl,
      ap (λ (x : ObjectTree). declares x links' (Some code')) (object_same o o' links links' e)
          ∙ ap (λ (ls : List NameParts). declares o ls (Some code')) (links_same o o' links links' e),
    )
  where
    object_same : (o o' : ObjectTree) (links links' : List NameParts) → declares o' links' (Some []) ≡ declares o links (Some []) → o' ≡ o
    object_same o o' links links' e = cc

    links_same : (o o' : ObjectTree) (links links' : List NameParts) → declares o' links' (Some []) ≡ declares o links (Some []) → links' ≡ links
    links_same o o' links links' e = cc
alike opens opens e = inl (refl, refl)
alike (expects count) (expects count') e = inl (e, refl)
alike (declares o links None) (declares o' links' (Some code')) e = absurd cc
alike (declares o links (Some code)) (declares o' links' None) e = absurd cc
alike (declares o links None) opens e = absurd cc
alike (declares o links None) (expects count') e = absurd cc
alike (declares o links (Some code)) opens e = absurd cc
alike (declares o links (Some code)) (expects count') e = absurd cc
alike opens (declares o' links' None) e = absurd cc
alike opens (declares o' links' (Some code')) e = absurd cc
alike opens (expects count') e = absurd cc
alike (expects count) (declares o' links' None) e = absurd cc
alike (expects count) (declares o' links' (Some code')) e = absurd cc
alike (expects count) opens e = absurd cc

-- ---- what a placement gives

no_code : (d : Effect) (p : List Segment) → effect_codes d ≡ [] → methods_by d p ≡ []
no_code (declares o links None) p e = refl
no_code (declares o links (Some code)) p e = absurd cc
no_code opens p e = refl
no_code (expects count) p e = refl

object_alike : (d d' : Effect) (p : List Segment) → Alike d d' → object_by d' p ≡ object_by d p
object_alike d d' p (inl (same, none)) = ap (λ (x : Effect). object_by x p) same
object_alike d d' p (inr (o, links, code, code', is, is')) = ap (λ (x : Effect). object_by x p) is' ∙ sym (ap (λ (x : Effect). object_by x p) is)

counts_alike : (d d' : Effect) (s : List Segment) (n : NameParts) → Alike d d' → counts_by d' s n ≡ counts_by d s n
counts_alike d d' s n (inl (same, none)) = ap (λ (x : Effect). counts_by x s n) same
counts_alike d d' s n (inr (o, links, code, code', is, is')) = ap (λ (x : Effect). counts_by x s n) is' ∙ sym (ap (λ (x : Effect). counts_by x s n) is)

pending_alike : (d d' : Effect) (s p : List Segment) → Alike d d' → pending_by d' s p ≡ pending_by d s p
pending_alike d d' s p (inl (same, none)) = ap (λ (x : Effect). pending_by x s p) same
pending_alike d d' s p (inr (o, links, code, code', is, is')) = ap (λ (x : Effect). pending_by x s p) is' ∙ by links ∙ sym (ap (λ (x : Effect). pending_by x s p) is)
  where
    by : (links : List NameParts) → pending_by (declares o links (Some code')) s p ≡ pending_by (declares o links (Some code)) s p
    by [] = refl
    by (n ∷ ns) = refl

placed_alike : (d d' : Effect) (N : Namespace) (s : List Segment) (n : NameParts) (p : List Segment) → Alike d d' → IsPlaced d N s n p → IsPlaced d' N s n p
placed_alike d d' N s n p (inl (same, none)) h = subst (λ (x : Effect). IsPlaced x N s n p) (sym same) h
placed_alike d d' N s n p (inr (o, links, code, code', is, is')) h = subst (λ (x : Effect). IsPlaced x N s n p) (sym is') (subst (λ (x : Effect). IsPlaced x N s n p) is h)

-- ---- listings

abbrev with_step : Step → Placement → Placement
with_step x e = record { step = x; scope = e.scope; path = e.path }

-- the same scopes and paths, of other sites
abbrev pub relisted : List Site → List Placement → List Placement
relisted [] es = []
relisted (x ∷ xs) [] = []
relisted (x ∷ xs) (e ∷ es) = with_step x.step e ∷ relisted xs es

-- the sites are those of the placements, but for code
abbrev pub AreAlike : List Site → List Placement → Type 0
AreAlike [] [] = Unit {0}
AreAlike (x ∷ xs) (e ∷ es) = (x.step.name ≡ e.step.name) × Alike e.step.effect x.step.effect × AreAlike xs es
AreAlike [] (e ∷ es) = ⊥
AreAlike (x ∷ xs) [] = ⊥

pub first_same : {X : Type 0} (x y : X) (xs ys : List X) → x ∷ xs ≡ y ∷ ys → x ≡ y
first_same x y xs ys e = cc

pub others_same : {X : Type 0} (x y : X) (xs ys : List X) → x ∷ xs ≡ y ∷ ys → xs ≡ ys
others_same x y xs ys e = cc

-- one site that is another but for code, and the placement of that
module _ (x x' : Site) (e : Placement) (step_is : e.step ≡ x.step) (same : bare_site x' ≡ bare_site x) where
  name_kept : x'.step.name ≡ e.step.name
  name_kept = ap (λ (y : Site). y.step.name) same ∙ sym (ap (λ (y : Step). y.name) step_is)

  inside_kept : x'.inside ≡ x.inside
  inside_kept = ap (λ (y : Site). y.inside) same

  effect_kept : Alike e.step.effect x'.step.effect
  effect_kept = alike e.step.effect x'.step.effect (ap (λ (y : Site). y.step.effect) same ∙ sym (ap (λ (y : Step). bare_effect y.effect) step_is))

  placed_kept : (N : Namespace) → IsPlaced e.step.effect N e.scope e.step.name e.path → IsPlaced x'.step.effect N e.scope x'.step.name e.path
  placed_kept N h = subst (λ (n : NameParts). IsPlaced x'.step.effect N e.scope n e.path) (sym name_kept) (placed_alike e.step.effect x'.step.effect N e.scope e.step.name e.path effect_kept h)

pub are_alike : (N : Namespace) (before : List (List Segment)) (xs xs' : List Site) (es : List Placement) → map bare_site xs' ≡ map bare_site xs → IsJustified N before xs es → AreAlike xs' es
are_alike N before [] [] [] same h = tt
are_alike N before [] [] (e ∷ es) same h = absurd h
are_alike N before [] (x' ∷ xs') es same h = absurd cc
are_alike N before (x ∷ xs) [] es same h = absurd cc
are_alike N before (x ∷ xs) (x' ∷ xs') [] same h = absurd h
are_alike N before (x ∷ xs) (x' ∷ xs') (e ∷ es) same h =
    let here = first_same (bare_site x') (bare_site x) (map bare_site xs') (map bare_site xs) same in
    let later = others_same (bare_site x') (bare_site x) (map bare_site xs') (map bare_site xs) same in
    (name_kept x x' e h.0 here, effect_kept x x' e h.0 here, are_alike (union N (object_of e)) (before ++ e.path ∷ []) xs xs' es later h.3)

pub justified : (N : Namespace) (before : List (List Segment)) (xs xs' : List Site) (es : List Placement) → map bare_site xs' ≡ map bare_site xs
    → IsJustified N before xs es → IsJustified N before xs' (relisted xs' es)
justified N before [] [] [] same h = tt
justified N before [] [] (e ∷ es) same h = absurd h
justified N before [] (x' ∷ xs') es same h = absurd cc
justified N before (x ∷ xs) [] es same h = absurd cc
justified N before (x ∷ xs) (x' ∷ xs') [] same h = absurd h
justified N before (x ∷ xs) (x' ∷ xs') (e ∷ es) same h =
    let here = first_same (bare_site x') (bare_site x) (map bare_site xs') (map bare_site xs) same in
    let later = others_same (bare_site x') (bare_site x) (map bare_site xs') (map bare_site xs) same in (
      refl,
      h.1 ∙ ap (scope_within before) (sym (inside_kept x x' e h.0 here)),
      placed_kept x x' e h.0 here N h.2,
      subst (λ (M : Namespace). IsJustified (union N M) (before ++ e.path ∷ []) xs' (relisted xs' es)) (sym (object_alike e.step.effect x'.step.effect e.path (effect_kept x x' e h.0 here)))
          (justified (union N (object_of e)) (before ++ e.path ∷ []) xs xs' es later h.3),
    )

pub same_objects : (xs : List Site) (es : List Placement) → AreAlike xs es → objects_of (relisted xs es) ≡ objects_of es
same_objects [] [] h = refl
same_objects [] (e ∷ es) h = absurd h
same_objects (x ∷ xs) [] h = absurd h
same_objects (x ∷ xs) (e ∷ es) h =
    ap (λ (M : Namespace). union M (objects_of (relisted xs es))) (object_alike e.step.effect x.step.effect e.path h.1) ∙ ap (union (object_of e)) (same_objects xs es h.2)

pub same_links : (xs : List Site) (es : List Placement) → AreAlike xs es → pending_links (relisted xs es) ≡ pending_links es
same_links [] [] h = refl
same_links [] (e ∷ es) h = absurd h
same_links (x ∷ xs) [] h = absurd h
same_links (x ∷ xs) (e ∷ es) h =
    ap (λ ls. ls ++ pending_links (relisted xs es)) (pending_alike e.step.effect x.step.effect e.scope e.path h.1) ∙ ap (λ ls. pending_by e.step.effect e.scope e.path ++ ls) (same_links xs es h.2)

pub same_counts : (xs : List Site) (es : List Placement) → AreAlike xs es → external_counts (relisted xs es) ≡ external_counts es
same_counts [] [] h = refl
same_counts [] (e ∷ es) h = absurd h
same_counts (x ∷ xs) [] h = absurd h
same_counts (x ∷ xs) (e ∷ es) h =
    ap (λ (n : NameParts). union (counts_by x.step.effect e.scope n) (external_counts (relisted xs es))) h.0
    ∙ ap (λ (l : Lookup ℕ). union l (external_counts (relisted xs es))) (counts_alike e.step.effect x.step.effect e.scope e.step.name h.1)
    ∙ ap (union (counts_by e.step.effect e.scope e.step.name)) (same_counts xs es h.2)

-- ---- methods

-- the methods with other code, one after another
abbrev pub recoded : List notes.Method → List (List ℕ) → List notes.Method
recoded [] cs = []
recoded (m ∷ ms) [] = []
recoded (m ∷ ms) (c ∷ cs) = record { path = m.path; code = c } ∷ recoded ms cs

first_methods : (d d' : Effect) (p : List Segment) (ms later : List notes.Method) (cs : List (List ℕ)) → Alike d d' → later ≡ recoded ms cs
    → methods_by d' p ++ later ≡ recoded (methods_by d p ++ ms) (effect_codes d' ++ cs)
first_methods d d' p ms later cs (inl (same, none)) e =
    ap (λ (ns : List notes.Method). ns ++ later) (ap (λ (x : Effect). methods_by x p) same ∙ no_code d p none) ∙ e
    ∙ sym (ap (λ (ns : List notes.Method). recoded (ns ++ ms) (effect_codes d' ++ cs)) (no_code d p none) ∙ ap (λ (ds : List (List ℕ)). recoded ms (ds ++ cs)) (ap effect_codes same ∙ none))
first_methods d d' p ms later cs (inr (o, links, code, code', is, is')) e =
    ap (λ (x : Effect). methods_by x p ++ later) is' ∙ ap (λ (ns : List notes.Method). record { path = p; code = code' } ∷ ns) e
    ∙ sym (ap (λ (x : Effect). recoded (methods_by x p ++ ms) (effect_codes d' ++ cs)) is ∙ ap (λ (x : Effect). recoded (record { path = p; code = code } ∷ ms) (effect_codes x ++ cs)) is')

pub recoded_methods : (xs : List Site) (es : List Placement) → AreAlike xs es → methods (relisted xs es) ≡ recoded (methods es) (site_codes xs)
recoded_methods [] [] h = refl
recoded_methods [] (e ∷ es) h = absurd h
recoded_methods (x ∷ xs) [] h = absurd h
recoded_methods (x ∷ xs) (e ∷ es) h = first_methods e.step.effect x.step.effect e.path (methods es) (methods (relisted xs es)) (site_codes xs) h.1 (recoded_methods xs es h.2)

-- the code of the methods of a listing is that of its sites
code_of_effect : (d : Effect) (p : List Segment) → map (λ (m : notes.Method). m.code) (methods_by d p) ≡ effect_codes d
code_of_effect (declares o links None) p = refl
code_of_effect (declares o links (Some code)) p = refl
code_of_effect opens p = refl
code_of_effect (expects count) p = refl

pub listed_codes : (N : Namespace) (before : List (List Segment)) (xs : List Site) (es : List Placement) → IsJustified N before xs es
    → map (λ (m : notes.Method). m.code) (methods es) ≡ site_codes xs
listed_codes N before [] [] h = refl
listed_codes N before [] (e ∷ es) h = absurd h
listed_codes N before (x ∷ xs) [] h = absurd h
listed_codes N before (x ∷ xs) (e ∷ es) h =
    map-append (λ (m : notes.Method). m.code) (methods_by e.step.effect e.path) (methods es)
    ∙ ap (λ (cs : List (List ℕ)). cs ++ map (λ (m : notes.Method). m.code) (methods es)) (code_of_effect e.step.effect e.path ∙ ap (λ (y : Step). effect_codes y.effect) h.0)
    ∙ ap (λ (cs : List (List ℕ)). effect_codes x.step.effect ++ cs) (listed_codes (union N (object_of e)) (before ++ e.path ∷ []) xs es h.3)
