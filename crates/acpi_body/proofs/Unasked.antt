-- A search none of whose tries is asked for gathers nothing.
use Rattle.std.proofs.Common.{◌≡◌, Bool, true, false, cond, List, [], ◌∷◌, ◌++◌, map, find, Option, Some, None, is_some, refl, sym, ap, ◌∙◌}
use Rattle.std.specs.List.{filter}
use Rattle.std.specs.FinMap.{get}
use Rattle.acpi_name.specs.Names.{Segment}
use Rattle.acpi_space.specs.Lookups.{is_defined_in}
use Rattle.acpi_space.specs.Search.{answer, beginnings, missed, skipped, tries}
use Rattle.acpi_space.specs.Wanted.{Wants}
use Rattle.acpi_space.proofs.Beginnings.{find_map}
use Rattle.acpi_space.proofs.Maps.{none_of_not_some}
use Rattle.acpi_space.proofs.Laid.{is_some-map}
use Rattle.acpi_body.specs.declared.gathered.Gathered.{Gathered}
use Rattle.acpi_body.specs.Arguments.{namespace_of, defined_with, expected_place}
use Rattle.acpi_body.specs.Searches.{Searched}
use Rattle.acpi_body.specs.Misses.{unless_found}
use Rattle.acpi_body.specs.steps.Setting.{Setting}
use Rattle.acpi_body.specs.steps.Gathering.{if_wanted, with_awaited, with_misses, with_search}

-- whether a plain name is asked for, and a name at its place
pub asked_below : (w : Wants) (g : Segment) (s : List Segment) → is_some (find (λ q. w (q ++ g ∷ [])) (beginnings s)) ≡ is_some (find w (map (λ q. q ++ g ∷ []) (beginnings s)))
asked_below w g s = sym (ap is_some (find_map w (λ q. q ++ g ∷ []) (beginnings s)) ∙ is_some-map (λ q. q ++ g ∷ []) (find (λ q. w (q ++ g ∷ [])) (beginnings s)))

pub asked_there : (w : Wants) (p : List Segment) → w p ≡ is_some (find w (p ∷ []))
asked_there w p = elim (w p) as (λ b. b ≡ is_some (cond b (Some p) None)) [ true ↦ refl | false ↦ refl ]

module _ {X : Type 0} (w : X → Bool) where
  none_missed : (d : X → Bool) (ts : List X) → find w ts ≡ None → filter w (skipped d ts) ≡ []
  none_missed d [] e = refl
  none_missed d (x ∷ ts) e = by (w x) refl e (none_missed d ts)
    where
      by : (b : Bool) → w x ≡ b → cond b (Some x) (find w ts) ≡ None → (find w ts ≡ None → filter w (skipped d ts) ≡ []) → filter w (cond (d x) [] (x ∷ skipped d ts)) ≡ []
      by true f e more = cc
      by false f e more = elim (d x) as (λ b. filter w (cond b [] (x ∷ skipped d ts)) ≡ []) [
        | true ↦ refl
        | false ↦ ap (λ b. cond b (x ∷ filter w (skipped d ts)) (filter w (skipped d ts))) f ∙ more e
      ]

  found_unasked : (t : X → Bool) (ts : List X) (p : X) → find w ts ≡ None → find t ts ≡ Some p → w p ≡ false
  found_unasked t [] p e h = cc
  found_unasked t (x ∷ ts) p e h = by (w x) refl (t x) e h (found_unasked t ts p)
    where
      by : (b : Bool) → w x ≡ b → (a : Bool) → cond b (Some x) (find w ts) ≡ None → cond a (Some x) (find t ts) ≡ Some p → (find w ts ≡ None → find t ts ≡ Some p → w p ≡ false) → w p ≡ false
      by true f a e h more = cc
      by false f true e h more = cc
      by false f false e h more = more e h

none_awaited : (w : Wants) (t : List Segment → Bool) (ts : List (List Segment)) (answered o : Option (List Segment)) → find w ts ≡ None → find t ts ≡ o → if_wanted w (unless_found answered o) ≡ None
none_awaited w t ts None None e h = refl
none_awaited w t ts None (Some p) e h = ap (λ b. cond b (Some p) None) (found_unasked w t ts p e h)
none_awaited w t ts (Some q) o e h = refl

pub none_gathered : (w : Wants) (c : Setting) (g : Gathered) (e : Searched) → is_some (answer w c.method e.1) ≡ false → g ≡ with_search w c g e
unfolding with_search
none_gathered w c g e n =
    let objects = namespace_of c.objects in
    let defined = defined_with objects e.0 in
    let ts = tries c.method e.1 in
    let unasked : find w ts ≡ None = none_of_not_some (find w ts) n in
    let missed_none : filter w (missed defined c.method e.1) ≡ [] = none_missed w defined ts unasked in
    let awaited = unless_found (answer defined c.method e.1) (expected_place (get c.externals) c.method e.1) in
    let awaited_none : if_wanted w awaited ≡ None = none_awaited w (is_defined_in (get c.externals)) ts (answer defined c.method e.1) (expected_place (get c.externals) c.method e.1) unasked refl in
    ap (λ (l : List (List Segment)). record { firm = with_misses awaited g.firm l; awaited = g.awaited }) (sym missed_none)
    ∙ ap (λ (o : Option (List Segment)). record { firm = with_misses awaited g.firm (filter w (missed defined c.method e.1)); awaited = with_awaited (get c.externals) g.awaited o }) (sym awaited_none)
