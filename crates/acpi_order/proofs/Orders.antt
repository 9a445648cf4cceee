-- Independence and the join are the same for every order of the SSDTs.
use Rattle.std.proofs.Common.{◌≡◌, ◌≢◌, ℕ, zero, suc, ◌<◌, List, [], ◌∷◌, length, get_or, set, swap, IsPermutation, Option, Some, None, ◌⊎◌, inl, inr, refl, sym, ap, subst, ◌∙◌, arith, length-set, get_or-set_same, get_or-set_other}
use Rattle.std.specs.List.{AllByRecursion}
use Rattle.std.proofs.lemmas.List.Edits.{swap_is, length-swap}
use Rattle.std.proofs.lemmas.List.Sorted.{IsPermutation-keeps, IsPermutation-sym}
use Rattle.std.proofs.ByRecursion.{all_shuffled}
use Rattle.acpi_space.specs.Lookups.{Lookup}
use Rattle.acpi_space.specs.Laws.{Among}
use Rattle.acpi_space.proofs.Elements.{among_all}
use Rattle.acpi_order.specs.Machines.{Machine, IsMachine}
use Rattle.acpi_order.specs.Joins.{IsUnion, IsJoin, IsSingleLoad}
use Rattle.acpi_order.specs.Independent.{StandsAt, AllDifferent, LoadsAlone, AreApart, IsIndependent}
use Rattle.acpi_order.proofs.Joined.{load_joins}

equal_or_not : (a b : ℕ) → (a ≡ b) ⊎ (a ≢ b)
equal_or_not a b = grind arith

-- where the element at k of the list with i and j exchanged stood before
abbrev IsMoved : ℕ → ℕ → ℕ → ℕ → Type 0
IsMoved i j k m = ((k ≡ j) × (m ≡ i)) ⊎ (((k ≢ j) × (k ≡ i) × (m ≡ j)) ⊎ ((k ≢ j) × (k ≢ i) × (m ≡ k)))

apart_moved : (i j a b m n : ℕ) → IsMoved i j a m → IsMoved i j b n → a ≢ b → m ≢ n
apart_moved i j a b m n h k ne = omega arith

below_moved : (i j k m l : ℕ) → i < l → j < l → k < l → IsMoved i j k m → m < l
below_moved i j k m l p q r h = omega arith

pub stands_there : {X : Type 0} (xs : List X) (i : ℕ) (x d : X) → StandsAt xs i x → (i < length xs) × (get_or xs i d ≡ x)
stands_there [] i x d h = absurd h
stands_there (y ∷ ys) zero x d h = (omega arith, h)
stands_there (y ∷ ys) (suc i) x d h = let r = stands_there ys i x d h in (omega arith, r.1)

pub there_stands : {X : Type 0} (xs : List X) (i : ℕ) (d : X) → i < length xs → StandsAt xs i (get_or xs i d)
there_stands [] i d p = absurd (omega arith)
there_stands (y ∷ ys) zero d p = refl
there_stands (y ∷ ys) (suc i) d p = there_stands ys i d (omega arith)

module _ {X : Type 0} where
  exchanged : (l : List X) (i j : ℕ) (d : X) → i < length l → j < length l → (k : ℕ) → (m : ℕ) × IsMoved i j k m × (get_or (swap l i j) k d ≡ get_or l m d)
  exchanged l i j d p q k = by (equal_or_not k j) (equal_or_not k i)
    where
      at : get_or (swap l i j) k d ≡ get_or (set (set l i (get_or l j d)) j (get_or l i d)) k d
      at = ap (λ xs. get_or xs k d) (sym (swap_is l i j d p q))

      by : (k ≡ j) ⊎ (k ≢ j) → (k ≡ i) ⊎ (k ≢ i) → (m : ℕ) × IsMoved i j k m × (get_or (swap l i j) k d ≡ get_or l m d)
      by (inl e) f =
          let long : j < length (set l i (get_or l j d)) = omega (arith, length-set l i (get_or l j d)) in
          (i, inl (e, refl), at ∙ ap (λ n. get_or (set (set l i (get_or l j d)) j (get_or l i d)) n d) e ∙ get_or-set_same (set l i (get_or l j d)) j (get_or l i d) d long)
      by (inr n) (inl e) = (
        j,
        inr (inl (n, e, refl)),
        at ∙ get_or-set_other (set l i (get_or l j d)) j k (get_or l i d) d n ∙ ap (λ n. get_or (set l i (get_or l j d)) n d) e ∙ get_or-set_same l i (get_or l j d) d p,
      )
      by (inr n) (inr f) = (k, inr (inr (n, f, refl)), at ∙ get_or-set_other (set l i (get_or l j d)) j k (get_or l i d) d n ∙ get_or-set_other l i k (get_or l j d) d f)

  different_exchanged : (R : X → X → Type 0) (l : List X) (i j : ℕ) → i < length l → j < length l → AllDifferent R l → AllDifferent R (swap l i j)
  different_exchanged R l i j p q all a b x y ne hx hy =
      let long = length-swap l i j in
      let sx = stands_there (swap l i j) a x x hx in
      let sy = stands_there (swap l i j) b y x hy in
      let la : a < length l = omega (arith, sx.0) in
      let lb : b < length l = omega (arith, sy.0) in
      let ex = exchanged l i j x p q a in
      let ey = exchanged l i j x p q b in
      let h = all ex.0 ey.0 (get_or l ex.0 x) (get_or l ey.0 x) (apart_moved i j a b ex.0 ey.0 ex.1 ey.1 ne)
      (there_stands l ex.0 x (below_moved i j a ex.0 (length l) p q la ex.1)) (there_stands l ey.0 x (below_moved i j b ey.0 (length l) p q lb ey.1)) in
      subst (λ v. R x v) (sym ey.2 ∙ sy.1) (subst (λ v. R v (get_or l ey.0 x)) (sym ex.2 ∙ sx.1) h)

  different_in_any_order : (R : X → X → Type 0) (xs ys : List X) → IsPermutation xs ys → AllDifferent R xs → AllDifferent R ys
  different_in_any_order R xs ys order all = IsPermutation-keeps xs (AllDifferent R) all (different_exchanged R) ys order

all_among_more : {X : Type 0} (z : X) (zs xs : List X) → AllByRecursion (Among zs) xs → AllByRecursion (Among (z ∷ zs)) xs
all_among_more z zs [] h = tt
all_among_more z zs (x ∷ xs) h = (inr h.0, all_among_more z zs xs h.1)

all_among_itself : {X : Type 0} (xs : List X) → AllByRecursion (Among xs) xs
all_among_itself [] = tt
all_among_itself (x ∷ xs) = (inl refl, all_among_more x xs xs (all_among_itself xs))

pub among_in_any_order : {X : Type 0} (xs ys : List X) → IsPermutation xs ys → (x : X) → Among xs x → Among ys x
among_in_any_order xs ys order x m = among_all (Among ys) xs (all_shuffled (Among ys) ys xs (IsPermutation-sym xs ys order) (all_among_itself ys)) x m

union_of_equals : {X V : Type 0} (Part Piece : X → Type 0) (values : X → Lookup V) (whole : Lookup V)
    → ((x : X) → Part x → Piece x) → ((x : X) → Piece x → Part x) → IsUnion Part values whole → IsUnion Piece values whole
union_of_equals Part Piece values whole to from h p v =
    (λ e. let r = (h p v).0 e in (r.0, to r.0 r.1, r.2), λ r. (h p v).1 (r.0, from r.0 r.1, r.2))

module _ (depth : ℕ) (dsdt : List ℕ) where
  single_in_any_order : (xs ys : List (List ℕ)) → IsPermutation xs ys → (m : Machine) → IsSingleLoad depth dsdt xs m → IsSingleLoad depth dsdt ys m
  single_in_any_order xs ys order m h = record { ssdt = h.ssdt; one_of = among_in_any_order xs ys order h.ssdt h.one_of; load = h.load }

  pub join_in_any_order : (xs ys : List (List ℕ)) (m : Machine) → IsPermutation xs ys → IsJoin (IsSingleLoad depth dsdt xs) m → IsJoin (IsSingleLoad depth dsdt ys) m
  join_in_any_order xs ys m order h =
      let to = single_in_any_order xs ys order in
      let from = single_in_any_order ys xs (IsPermutation-sym xs ys order) in
      record {
        objects_join = union_of_equals _ _ (λ x. x.objects) m.objects to from h.objects_join;
        links_join = union_of_equals _ _ (λ x. x.links) m.links to from h.links_join;
        bodies_join = union_of_equals _ _ (λ x. x.bodies) m.bodies to from h.bodies_join;
      }

  pub independent_in_any_order : (xs ys : List (List ℕ)) → IsPermutation xs ys → IsIndependent depth dsdt xs → IsIndependent depth dsdt ys
  independent_in_any_order xs ys order h = record {
    alone = all_shuffled (LoadsAlone depth dsdt) xs ys order h.alone;
    apart = different_in_any_order (AreApart depth dsdt) xs ys order h.apart;
  }

  pub some_in_any_order : (xs ys : List (List ℕ)) → IsPermutation xs ys → xs ≢ [] → ys ≢ []
  some_in_any_order [] ys order some = absurd (some refl)
  some_in_any_order (x ∷ xs) ys order some = λ none. absurd (subst (λ l. Among l x) none (among_in_any_order (x ∷ xs) ys order x (inl refl)))

  -- given in any order, independent SSDTs load to the join of their single loads
  pub joins_in_any_order : (xs ys : List (List ℕ)) (m : Machine) → xs ≢ [] → IsPermutation xs ys → IsIndependent depth dsdt xs → IsMachine depth (dsdt ∷ ys) m
      → IsJoin (IsSingleLoad depth dsdt xs) m
  joins_in_any_order xs ys m some order h load =
      join_in_any_order ys xs m (IsPermutation-sym xs ys order)
      (load_joins depth dsdt ys m (some_in_any_order xs ys order some) (independent_in_any_order xs ys order h) load)

-- ---- joins of the same parts are one

one_value : {V : Type 0} (a b : Option V) → ((v : V) → a ≡ Some v → b ≡ Some v) → ((v : V) → b ≡ Some v → a ≡ Some v) → a ≡ b
one_value None None f g = refl
one_value None (Some v) f g = g v refl
one_value (Some v) b f g = sym (f v refl)

one_union : {X V : Type 0} (Part : X → Type 0) (values : X → Lookup V) (f g : Lookup V) → IsUnion Part values f → IsUnion Part values g → f ≡ g
one_union Part values f g h k = λ i p. one_value (f p) (g p) (λ v e. (k p v).1 ((h p v).0 e)) (λ v e. (h p v).1 ((k p v).0 e)) i

pub one_join : (Part : Machine → Type 0) (m n : Machine) → IsJoin Part m → IsJoin Part n → m ≡ n
one_join Part m n h k =
    let objects = one_union Part (λ x. x.objects) m.objects n.objects h.objects_join k.objects_join in
    let links = one_union Part (λ x. x.links) m.links n.links h.links_join k.links_join in
    let bodies = one_union Part (λ x. x.bodies) m.bodies n.bodies h.bodies_join k.bodies_join in
    λ i. record { objects = objects i; links = links i; bodies = bodies i }

pub one_in_any_order : (depth : ℕ) (dsdt : List ℕ) (xs ys : List (List ℕ)) (m n : Machine) → xs ≢ [] → IsPermutation xs ys → IsIndependent depth dsdt xs
    → IsMachine depth (dsdt ∷ xs) m → IsMachine depth (dsdt ∷ ys) n → m ≡ n
one_in_any_order depth dsdt xs ys m n some order h a b =
    one_join (IsSingleLoad depth dsdt xs) m n (load_joins depth dsdt xs m some h a) (joins_in_any_order depth dsdt xs ys n some order h b)
