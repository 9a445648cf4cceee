-- The objects of a single load stay in the load of all, and what it missed stays free.
use Rattle.std.proofs.Common.{◌≡◌, ℕ, List, [], ◌∷◌, Option, Some, None, IsTrue, inl, inr, refl, sym, ap, subst, ◌∙◌}
use Rattle.std.specs.List.{AllByRecursion}
use Rattle.std.specs.Option.{option_or}
use Rattle.acpi_name.specs.Names.{Segment}
use Rattle.acpi_space.specs.Laws.{Among}
use Rattle.acpi_space.specs.Lookups.{union}
use Rattle.acpi_space.proofs.Elements.{among_all, all_map, none_of}
use Rattle.acpi_tree.specs.Objects.{ObjectTree}
use Rattle.acpi_declare.specs.Namespace.{Namespace}
use Rattle.acpi_declare.specs.Listing.{objects_of}
use Rattle.acpi_declare.specs.Loads.{objects_after}
use Rattle.acpi_pass.proofs.Unions.{or_assoc}
use Rattle.acpi_order.specs.Misses.{Listing, objects_of_first, objects_of_both, IsMiss, IsAwaited}
use Rattle.acpi_order.specs.Independent.{is_method_of, IsApart}
use Rattle.acpi_order.proofs.Lists.{or_none, or_up, or_free, or_nones}
use Rattle.acpi_order.proofs.Listings.{AreAllApart}

-- what all the tables declare
abbrev pub all_declared : List Listing → Namespace
all_declared [] q = None
all_declared (t ∷ ts) q = union (objects_of t) (all_declared ts) q

pub after_is : (N : Namespace) (ts : List Listing) (q : List Segment) → objects_after N ts q ≡ union N (all_declared ts) q
after_is N [] q = or_none (N q)
after_is N (t ∷ ts) q = after_is (union N (objects_of t)) ts q ∙ or_assoc (N q) (objects_of t q) (all_declared ts q)

-- one of the tables, with the others
pub data Picks : List Listing → Listing → List Listing → Type 0 where
  here : {t : Listing} {ts : List Listing} → Picks (t ∷ ts) t ts
  there : {t u : Listing} {ts others : List Listing} → Picks ts t others → Picks (u ∷ ts) t (u ∷ others)

pub picks : (ts : List Listing) (t : Listing) → Among ts t → (others : List Listing) × Picks ts t others
picks [] t m = absurd m
picks (u ∷ ts) t (inl e) = (ts, subst (λ (x : Listing). Picks (u ∷ ts) x ts) e here)
picks (u ∷ ts) t (inr m) = let r = picks ts t m in (u ∷ r.0, there r.1)

picked_all : (P : Listing → Type 0) {ts others : List Listing} {t : Listing} → Picks ts t others → AllByRecursion P ts → P t × AllByRecursion P others
picked_all P here all = all
picked_all P (there k) all = let r = picked_all P k all.1 in (r.0, (all.0, r.1))

none_declared : (ts : List Listing) (q : List Segment) → AllByRecursion (λ u. objects_of u q ≡ None) ts → all_declared ts q ≡ None
none_declared [] q none = refl
none_declared (t ∷ ts) q none = rw none.0 (none_declared ts q none.1)

-- where no other table declares the path, the tables declare there what this one does
declared_alone : {ts others : List Listing} {t : Listing} → Picks ts t others → (q : List Segment) → AllByRecursion (λ u. objects_of u q ≡ None) others
    → all_declared ts q ≡ objects_of t q
declared_alone {t = t} (here {ts = ts}) q none = ap (λ a. option_or (objects_of t q) a) (none_declared ts q none) ∙ sym (or_none (objects_of t q))
declared_alone (there k) q none = rw none.0 (declared_alone k q none.1)

declares_at : (t : Listing) (ts : List Listing) (p : List Segment) (o : ObjectTree) → (all_declared ts p ≡ Some o → (u : Listing) × Among ts u × (objects_of u p ≡ Some o))
    → (a : Option ObjectTree) → objects_of t p ≡ a → option_or a (all_declared ts p) ≡ Some o → (u : Listing) × Among (t ∷ ts) u × (objects_of u p ≡ Some o)
declares_at t ts p o rest None at e = let r = rest e in (r.0, inr r.1, r.2)
declares_at t ts p o rest (Some a) at e = (t, inl refl, at ∙ e)

pub some_declares : (ts : List Listing) (p : List Segment) (o : ObjectTree) → all_declared ts p ≡ Some o → (t : Listing) × Among ts t × (objects_of t p ≡ Some o)
some_declares [] p o e = cc
some_declares (t ∷ ts) p o e = declares_at t ts p o (some_declares ts p o) (objects_of t p) refl e

other_at : (u : Listing) (ts others : List Listing) (p : List Segment) (o : ObjectTree)
    → (all_declared ts p ≡ Some o → (v : Listing) × Among others v × (objects_of v p ≡ Some o)) → (a : Option ObjectTree) → objects_of u p ≡ a
    → option_or a (all_declared ts p) ≡ Some o → (v : Listing) × Among (u ∷ others) v × (objects_of v p ≡ Some o)
other_at u ts others p o rest None at e = let r = rest e in (r.0, inr r.1, r.2)
other_at u ts others p o rest (Some a) at e = (u, inl refl, at ∙ e)

other_declares : {ts others : List Listing} {t : Listing} → Picks ts t others → (p : List Segment) (o : ObjectTree) → objects_of t p ≡ None → all_declared ts p ≡ Some o
    → (u : Listing) × Among others u × (objects_of u p ≡ Some o)
other_declares (here {ts = ts}) p o none e = some_declares ts p o (rw none at e)
other_declares (there {u = u} {ts = ts} {others = others} k) p o none e = other_at u ts others p o (other_declares k p o none) (objects_of u p) refl e

-- M has all that N has, and none of the paths that N lacks and that were missed, and a method at one that is awaited
pub record IsKept (N M : Namespace) (Miss : List Segment → Type 0) (Await : List Segment → ℕ → Type 0) : Type 0 where
  pub up : (p : List Segment) (o : ObjectTree) → N p ≡ Some o → M p ≡ Some o
  pub free : (p : List Segment) → N p ≡ None → Miss p → M p ≡ None
  pub met : (p : List Segment) (k : ℕ) (o : ObjectTree) → N p ≡ None → Await p k → M p ≡ Some o → IsTrue (is_method_of o k)

module _ (depth : ℕ) (first : Listing) where
  abbrev N : Namespace
  N = objects_of_first first

  abbrev AreApartBoth : Listing → Listing → Type 0
  AreApartBoth t u = IsApart depth first t u × IsApart depth first u t

  apart_others : {ts others : List Listing} {t : Listing} → Picks ts t others → AreAllApart depth first ts → AllByRecursion (AreApartBoth t) others
  apart_others here apart = apart.0
  apart_others {t = t} (there {u = u} k) apart = let r = picked_all (AreApartBoth u) k apart.0 in ((r.0.1, r.0.0), apart_others k apart.1)

  pub single_kept : {ts others : List Listing} {t : Listing} → Picks ts t others → AreAllApart depth first ts
      → IsKept (objects_of_both first t) (objects_after N ts) (IsMiss depth first t) (IsAwaited depth first t)
  single_kept {ts} {others} {t} k apart = record {
    up = λ p o e.
        let alone : objects_of t p ≡ Some o → AllByRecursion (λ u. objects_of u p ≡ None) others =
        λ d. all_map (AreApartBoth t) (λ u. objects_of u p ≡ None) (λ u both. (both.1 p o d).0) others (apart_others k apart) in
        after_is N ts p ∙ or_up (N p) (objects_of t p) (all_declared ts p) o (λ d. declared_alone k p (alone d) ∙ d) e;
    free = λ p e miss.
        let alone : AllByRecursion (λ u. objects_of u p ≡ None) others =
        all_map (AreApartBoth t) (λ u. objects_of u p ≡ None) (λ u both. none_of (objects_of u p) (λ o e. (both.0 p o e).1 miss)) others (apart_others k apart) in
        after_is N ts p ∙ or_free (N p) (objects_of t p) (all_declared ts p) (λ d. declared_alone k p alone ∙ d) e;
    met = λ p n o e wait at.
        let split = or_nones (N p) (objects_of t p) e in
        let more : all_declared ts p ≡ Some o = sym (ap (λ a. option_or a (all_declared ts p)) split.0) ∙ sym (after_is N ts p) ∙ at in
        let u = other_declares k p o split.1 more in
        ((among_all (AreApartBoth t) others (apart_others k apart) u.0 u.1).0 p o u.2).2 n wait;
  }
