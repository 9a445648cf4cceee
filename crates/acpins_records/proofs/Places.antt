-- Where a path stands among paths that ascend.
use Rattle.std.proofs.Common.{◌≡◌, ℕ, ◌+◌, ◌<◌, ◌≤◌, List, slice_get, Some, ◌∙◌, ap, subst, arith, inl, inr}
use Rattle.std.specs.Ordering.{ordering_reverse}
use Rattle.std.specs.declared.cmp.Ordering.{Ordering}
use Rattle.std.specs.declared.cmp.Ordering.TheVariants.{Less, Equal, Greater}
use Rattle.std.specs.Cmp.{tied_itself}
use Rattle.std.proofs.lemmas.Bool.{cases_lt}
use Rattle.acpi_name.specs.Names.{Segment}
use Rattle.acpi_name.specs.Paths.{path_cmp}
use Rattle.acpi_name.specs.steps.PathOrder.{path_cmp_total, path_cmp-IsAntisymmetric}
use Rattle.acpins_records.specs.Tree.{IsPlaceOf, none}
use Rattle.acpins_records.specs.steps.Runs.{Ascend}
use Rattle.acpins_records.proofs.Prefixes.{one_there}

-- all paths before a place are before that path
abbrev pub AreBefore : List (List Segment) → List Segment → ℕ → Type 0
AreBefore paths p n = (k : ℕ) (q : List Segment) → slice_get paths k ≡ Some q → k < n → path_cmp q p ≡ Less

-- .. and all from a place on behind it
abbrev pub AreBehind : List (List Segment) → List Segment → ℕ → Type 0
AreBehind paths p n = (k : ℕ) (q : List Segment) → slice_get paths k ≡ Some q → n ≤ k → path_cmp q p ≡ Greater

back : (o r : Ordering) → o ≡ ordering_reverse r → r ≡ Less → o ≡ Greater
back o Less e h = e
back o Equal e h = cc
back o Greater e h = cc

forth : (o r : Ordering) → o ≡ ordering_reverse r → r ≡ Greater → o ≡ Less
forth o Less e h = cc
forth o Equal e h = cc
forth o Greater e h = e

turned : (p q : List Segment) → path_cmp p q ≡ Less → path_cmp q p ≡ Greater
turned p q h = back (path_cmp q p) (path_cmp p q) (path_cmp_total.antisymm q p) h

turned_back : (p q : List Segment) → path_cmp p q ≡ Greater → path_cmp q p ≡ Less
turned_back p q h = forth (path_cmp q p) (path_cmp p q) (path_cmp_total.antisymm q p) h

-- a path that is before it, and those before that one
pub before_more : (paths : List (List Segment)) (p m : List Segment) (n : ℕ) → Ascend paths → slice_get paths n ≡ Some m → path_cmp m p ≡ Less → AreBefore paths p (n + 1)
before_more paths p m n h there less k q at under =
    elim (cases_lt k n) [
      | inl lt ↦ path_cmp_total.trans q m p (h k n q m lt at there) less
      | inr ge ↦
          let same : k ≡ n = omega arith in
          let alike : q ≡ m = one_there q m (slice_get paths n) (subst (λ i. slice_get paths i ≡ Some q) same at) there in
          ap (λ r. path_cmp r p) alike ∙ less
    ]

pub behind_more : (paths : List (List Segment)) (p m : List Segment) (n : ℕ) → Ascend paths → slice_get paths n ≡ Some m → path_cmp m p ≡ Greater → AreBehind paths p n
behind_more paths p m n h there greater k q at over =
    elim (cases_lt n k) [
      | inl lt ↦ turned p q (path_cmp_total.trans p m q (turned_back m p greater) (h n k m q lt there at))
      | inr ge ↦
          let same : k ≡ n = omega arith in
          let alike : q ≡ m = one_there q m (slice_get paths n) (subst (λ i. slice_get paths i ≡ Some q) same at) there in
          ap (λ r. path_cmp r p) alike ∙ greater
    ]

itself : (p : List Segment) → path_cmp p p ≡ Equal
itself p = tied_itself path_cmp_total p

apart : (o : Ordering) → o ≡ Equal → (o ≡ Less → ⊥) × (o ≡ Greater → ⊥)
apart o e = (λ h. cc, λ h. cc)

-- where no place is left it has none
pub no_place : (paths : List (List Segment)) (p : List Segment) (low high n : ℕ) → high ≤ low → n ≡ none → AreBefore paths p low → AreBehind paths p high → IsPlaceOf paths (Some p) n
no_place paths p low high n over is before behind =
    inr (
      is,
      λ k there. elim (cases_lt k low) [
        | inl lt ↦ (apart (path_cmp p p) (itself p)).0 (before k p there lt)
        | inr ge ↦ (apart (path_cmp p p) (itself p)).1 (behind k p there (omega (arith, over)))
      ],
    )

-- the place of a path that ties with it
pub at_place : (paths : List (List Segment)) (p m : List Segment) (n : ℕ) → slice_get paths n ≡ Some m → path_cmp m p ≡ Equal → IsPlaceOf paths (Some p) n
at_place paths p m n there tie = inl (there ∙ ap Some (path_cmp-IsAntisymmetric m p tie))
