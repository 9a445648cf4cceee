-- What links answer stands among the paths of the objects.
use Rattle.std.proofs.Common.{◌≡◌, ℕ, zero, suc, Bool, true, false, cond, List, [], ◌∷◌, ◌++◌, map, refl, sym, ap, ◌∙◌, subst, Option, Some, None, slice_get, unwrap_or, inl, inr}
use Rattle.std.specs.List.{AllZip}
use Rattle.std.specs.Prelude as prelude
use Rattle.std.specs.FinMap.{find}
use Rattle.std.specs.Option.{option_or}
use Rattle.std.specs.Ordering.{eq_by_cmp}
use Rattle.acpi_name.specs.Names.{Segment, NameParts}
use Rattle.acpi_name.specs.Paths.{path_cmp}
use Rattle.acpi_name.specs.steps.PathOrder.{path_cmp-IsAntisymmetric}
use Rattle.acpi_space.specs.Lookups.{is_defined_in, is_same_path}
use Rattle.acpi_space.specs.Search.{answer, tries}
use Rattle.acpi_space.proofs.Comparisons.{eq_of}
use Rattle.acpi_tree.specs.Objects.{ObjectTree}
use Rattle.acpi_declare.specs.Namespace.{Namespace}
use Rattle.acpi_declare.specs.Links.{Links, PendingLink, answers, links_of}
use Rattle.acpins_records.specs.Records.{own_links}
use Rattle.acpins_records.specs.Contents.{IsTarget, all_links}
use Rattle.acpins_records.specs.Tree.{IsPlaceOf}

-- an answer is one of the paths, or there is none
abbrev pub IsIn : List (List Segment) → Option (List Segment) → Type 0
IsIn paths (Some p) = (k : ℕ) × (slice_get paths k ≡ Some p)
IsIn paths None = Unit {0}

abbrev pub AreIn : List (List Segment) → Links → Type 0
AreIn paths [] = Unit {0}
AreIn paths (a ∷ rest) = IsIn paths a × AreIn paths rest

in_append : (paths : List (List Segment)) (xs ys : Links) → AreIn paths xs → AreIn paths ys → AreIn paths (xs ++ ys)
in_append paths [] ys h k = k
in_append paths (a ∷ xs) ys h k = (h.0, in_append paths xs ys h.1 k)

-- ---- from places to targets

target_from : (paths : List (List Segment)) (a : Option (List Segment)) (n : ℕ) → IsIn paths a → IsPlaceOf paths a n → IsTarget paths a n
target_from paths (Some p) n here place = elim place [ inl is ↦ is | inr none ↦ absurd (none.1 here.0 here.1) ]
target_from paths None n here place = place

pub targets_from : (paths : List (List Segment)) (xs : Links) (ns : List ℕ) → AreIn paths xs → AllZip (IsPlaceOf paths) xs ns → AllZip (IsTarget paths) xs ns
targets_from paths [] [] here zip = zip
targets_from paths [] (n ∷ ns) here zip = zip
targets_from paths (a ∷ xs) [] here zip = zip
targets_from paths (a ∷ xs) (n ∷ ns) here zip = (target_from paths a n here.0 zip.0, targets_from paths xs ns here.1 zip.1)

-- ---- what a search finds is defined, and what is defined is one of the paths

by_test : (b : Bool) (q : List Segment) (rest : Option (List Segment)) (t : List Segment) (P : Type 0) → (b ≡ true → q ≡ t → P) → (rest ≡ Some t → P) → cond b (Some q) rest ≡ Some t → P
by_test true q rest t P hit miss e = hit refl (let same : q ≡ t = cc in same)
by_test false q rest t P hit miss e = miss e

found_defined : (defined : List Segment → Bool) (paths : List (List Segment)) (t : List Segment) → prelude.find defined paths ≡ Some t → defined t ≡ true
found_defined defined [] t e = cc
found_defined defined (p ∷ paths) t e = by_test (defined p) p (prelude.find defined paths) t (defined t ≡ true) (λ yes same. ap defined (sym same) ∙ yes) (λ rest. found_defined defined paths t rest) e

listed : (es : List (List Segment × ObjectTree)) (q : List Segment) → prelude.is_some (find path_cmp q es) ≡ true → (k : ℕ) × (slice_get (map (λ e. e.0) es) k ≡ Some q)
listed [] q e = cc
listed (e ∷ es) q is =
    elim (eq_by_cmp path_cmp q e.0) as (λ b. eq_by_cmp path_cmp q e.0 ≡ b → prelude.is_some (cond b (Some e.1) (find path_cmp q es)) ≡ true → (k : ℕ) × (slice_get (e.0 ∷ map (λ f. f.0) es) k ≡ Some q)) [
      | true ↦ λ same is. (zero, ap Some (sym (path_cmp-IsAntisymmetric q e.0 (eq_of _ same))))
      | false ↦ λ other is. let more = listed es q is in (suc more.0, more.1)
    ] refl is

module _ (objects : Namespace) (lines : List (List Segment × ObjectTree)) (are : (p : List Segment) → find path_cmp p lines ≡ objects p) where
  abbrev paths : List (List Segment)
  paths = map (λ e. e.0) lines

  answer_in : (a : Option (List Segment)) (s : List Segment) (n : NameParts) → answer (is_defined_in objects) s n ≡ a → IsIn paths a
  answer_in (Some q) s n e = listed lines q (ap prelude.is_some (are q) ∙ found_defined (is_defined_in objects) (tries s n) q e)
  answer_in None s n e = tt

  answers_in : (s : List Segment) (ns : List NameParts) → AreIn paths (answers objects s ns)
  answers_in s [] = tt
  answers_in s (n ∷ ns) = (answer_in (answer (is_defined_in objects) s n) s n refl, answers_in s ns)

  pending_in : (ws : List PendingLink) (p : List Segment) → AreIn paths (unwrap_or (links_of objects ws p) [])
  pending_in [] p = tt
  pending_in (w ∷ ws) p =
      elim (links_of objects ws p) as (λ o. AreIn paths (unwrap_or o []) → AreIn paths (unwrap_or (option_or o (cond (is_same_path p w.path) (Some (answers objects w.scope w.names)) None)) [])) [
        | Some own ↦ λ h. h
        | None ↦ λ h. elim (is_same_path p w.path) as (λ b. AreIn paths (unwrap_or (cond b (Some (answers objects w.scope w.names)) None) [])) [ true ↦ answers_in w.scope w.names | false ↦ tt ]
      ] (pending_in ws p)

  pub all_in : (es : List (List Segment × ObjectTree)) (links : List Segment → Option Links) (ws : List PendingLink) → links ≡ links_of objects ws → AreIn paths (all_links es links)
  all_in [] links ws e = tt
  all_in (f ∷ es) links ws e =
      in_append paths (own_links links f.0) (all_links es links) (subst (λ (l : List Segment → Option Links). AreIn paths (unwrap_or (l f.0) [])) (sym e) (pending_in ws f.0)) (all_in es links ws e)
