-- Lists that grow, and what they were at earlier moments.
use Rattle.std.proofs.Common.{◌≡◌, ℕ, zero, suc, ◌<◌, ◌≤◌, Bool, true, false, cond, List, [], ◌∷◌, ◌++◌, map, reverse, length, take, drop, refl, sym, ap, ap₂, subst, ◌∙◌, arith, append-nil}
use Rattle.std.specs.List.{AllByRecursion}
use Rattle.std.proofs.lemmas.List.{take-append-drop, take-append-le, take_all, length-append, length-reverse, reverse-append, reverse-reverse, length-take-le, get_or_append_left}
use Rattle.acpi_space.proofs.Elements.{all_map}
use Rattle.acpi_conditions.specs.Entries.{Turn, Entry}
use Rattle.acpi_conditions.specs.Known.{Certain}
use Rattle.acpi_conditions.specs.Turns.{way_of}
use Rattle.acpi_conditions.specs.EntryForms.{entry_view}
use Rattle.acpi_conditions.specs.KnownLists.{KnownLists, oldest, lists_behind, lists_at, known_by, seen_beyond}
use Rattle.acpi_conditions.specs.Walk.{Package}
use Rattle.acpi_conditions.specs.declared.turns.Way.{Way}
use Rattle.acpi_conditions.specs.declared.entry.Entry.{Entry as EntryForm}
use Rattle.acpi_conditions.specs.declared.facts.Mark.{Mark}
use Rattle.acpi_conditions.specs.declared.facts.HiddenRange.{HiddenRange}
use Rattle.acpi_conditions.specs.declared.packages.Package.{Package as PackageForm}
use Rattle.acpi_conditions.specs.steps.Stops.{IsWayOf}
use Rattle.acpi_conditions.specs.steps.Walks.{AreBefore, IsMarkOf, AreMarksOf, marks_of, package_of}

-- ---- lists that grow

pub record Extends (j k : KnownLists) : Type 0 where
  pub entries : (es : List EntryForm) × (k.entries ≡ j.entries ++ es)
  pub certain : (cs : List Certain) × (k.certain ≡ cs ++ j.certain)
  pub hidden : (hs : List HiddenRange) × (k.hidden ≡ j.hidden ++ hs)

oldest_kept : (n : ℕ) (xs cs : List Certain) → n ≤ length xs → oldest n (cs ++ xs) ≡ oldest n xs
oldest_kept n xs cs h =
    ap (λ (l : List Certain). reverse (take n l)) (reverse-append cs xs)
    ∙ ap reverse (take-append-le n (reverse xs) (reverse cs) (omega (arith, length-reverse xs)))

at_same : (j k : KnownLists) (m : Mark) → Extends j k → IsMarkOf j m → lists_at m k ≡ lists_at m j
at_same j k m x h = λ i. record {
  entries = (ap (take m.entries) x.entries.1 ∙ take-append-le m.entries j.entries x.entries.0 h.entries) i;
  certain = (ap (oldest m.certain) x.certain.1 ∙ oldest_kept m.certain j.certain x.certain.0 h.certain) i;
  hidden = (ap (take m.hidden) x.hidden.1 ∙ take-append-le m.hidden j.hidden x.hidden.0 h.hidden) i;
  in_loop = m.in_loop;
}

mark_still : (j k : KnownLists) (m : Mark) → Extends j k → IsMarkOf j m → IsMarkOf k m
mark_still j k m x h = record {
  entries = let l : m.entries ≤ length j.entries = h.entries in omega (arith, ap length x.entries.1, length-append j.entries x.entries.0);
  certain = let l : m.certain ≤ length j.certain = h.certain in omega (arith, ap length x.certain.1, length-append x.certain.0 j.certain);
  hidden = let l : m.hidden ≤ length j.hidden = h.hidden in omega (arith, ap length x.hidden.1, length-append j.hidden x.hidden.0);
  ranges = subst (AreBefore m.entries) (sym (ap (take m.hidden) x.hidden.1 ∙ take-append-le m.hidden j.hidden x.hidden.0 h.hidden)) h.ranges;
}

pub marks_still : (j k : KnownLists) (ms : List Mark) → Extends j k → AreMarksOf j ms → AreMarksOf k ms
marks_still j k [] x h = tt
marks_still j k (m ∷ ms) x h = (mark_still j k m x h.0, subst (λ (l : KnownLists). AreMarksOf l ms) (sym (at_same j k m x h.0)) h.1)

pub extends_at : (k : KnownLists) (m : Mark) → Extends (lists_at m k) k
extends_at k m = record {
  entries = (drop m.entries k.entries, sym (take-append-drop m.entries k.entries));
  certain = (
    reverse (drop m.certain (reverse k.certain)),
    sym (reverse-reverse k.certain) ∙ ap reverse (sym (take-append-drop m.certain (reverse k.certain))) ∙ reverse-append (take m.certain (reverse k.certain)) (drop m.certain (reverse k.certain)),
  );
  hidden = (drop m.hidden k.hidden, sym (take-append-drop m.hidden k.hidden));
}

pub marks_outer : (k : KnownLists) (m : Mark) (ms : List Mark) → AreMarksOf k (m ∷ ms) → AreMarksOf k ms
marks_outer k m ms h = marks_still (lists_at m k) k ms (extends_at k m) h.1

all_marks : (k : KnownLists) (ms : List Mark) → AreMarksOf k ms → AllByRecursion (IsMarkOf k) ms
all_marks k [] h = tt
all_marks k (m ∷ ms) h = (h.0, all_map (IsMarkOf (lists_at m k)) (IsMarkOf k) (λ n l. mark_still (lists_at m k) k n (extends_at k m) l) ms (all_marks (lists_at m k) ms h.1))

-- ---- this moment

pub record IsNow (k : KnownLists) (m : Mark) : Type 0 where
  pub entries : m.entries ≡ length k.entries
  pub certain : m.certain ≡ length k.certain
  pub hidden : m.hidden ≡ length k.hidden
  pub in_loop : m.in_loop ≡ k.in_loop

take_now : {X : Type 0} (n : ℕ) (xs : List X) → n ≡ length xs → take n xs ≡ xs
take_now n xs e = take_all n xs (omega arith)

pub lists_now : (k : KnownLists) (m : Mark) → IsNow k m → lists_at m k ≡ k
lists_now k m h = λ i. record {
  entries = take_now m.entries k.entries h.entries i;
  certain = (ap reverse (take_now m.certain (reverse k.certain) (h.certain ∙ sym (length-reverse k.certain))) ∙ reverse-reverse k.certain) i;
  hidden = take_now m.hidden k.hidden h.hidden i;
  in_loop = h.in_loop i;
}

pub marks_now : (k : KnownLists) (m : Mark) (ms : List Mark) → IsNow k m → AreBefore (length k.entries) k.hidden → AreMarksOf k ms → AreMarksOf k (m ∷ ms)
marks_now k m ms h ranges all = (
  record {
    entries = let e : m.entries ≡ length k.entries = h.entries in omega arith;
    certain = let e : m.certain ≡ length k.certain = h.certain in omega arith;
    hidden = let e : m.hidden ≡ length k.hidden = h.hidden in omega arith;
    ranges = subst (λ (n : ℕ). AreBefore n (take m.hidden k.hidden)) (sym h.entries) (subst (AreBefore (length k.entries)) (sym (take_now m.hidden k.hidden h.hidden)) ranges);
  },
  subst (λ (l : KnownLists). AreMarksOf l ms) (sym (lists_now k m h)) all,
)

-- ---- ways that grow

pub way_grown : (ways more : List (List Turn)) (way : Way) → IsWayOf ways way → way_of (ways ++ more) way ≡ way_of ways way
way_grown ways more way h = get_or_append_left ways more [] way.number h

pub still_way : (ways more : List (List Turn)) (way : Way) → IsWayOf ways way → IsWayOf (ways ++ more) way
still_way ways more way h = let l : way.number < length ways = h in omega (arith, length-append ways more)

entry_grown : (ways more : List (List Turn)) (e : EntryForm) → IsWayOf ways e.way → entry_view (ways ++ more) e ≡ entry_view ways e
entry_grown ways more e h = λ i. record (entry_view ways e) { way = way_grown ways more e.way h i }

pub entries_grown : (ways more : List (List Turn)) (es : List EntryForm) → AllByRecursion (λ e. IsWayOf ways e.way) es → map (entry_view (ways ++ more)) es ≡ map (entry_view ways) es
entries_grown ways more [] h = refl
entries_grown ways more (e ∷ es) h = ap₂ (λ (x : Entry) (l : List Entry). x ∷ l) (entry_grown ways more e h.0) (entries_grown ways more es h.1)

pub all_take : {X : Type 0} (P : X → Type 0) (n : ℕ) (xs : List X) → AllByRecursion P xs → AllByRecursion P (take n xs)
all_take P zero xs h = tt
all_take P (suc n) [] h = tt
all_take P (suc n) (x ∷ xs) h = (h.0, all_take P n xs h.1)

pub known_grown : (ways more : List (List Turn)) (k : KnownLists) → AllByRecursion (λ e. IsWayOf ways e.way) k.entries → known_by (ways ++ more) k ≡ known_by ways k
known_grown ways more k h = λ i. record { entries = seen_beyond k.hidden 0 (entries_grown ways more k.entries h i); certain = k.certain; in_loop = k.in_loop }

package_grown : (ways more : List (List Turn)) (k : KnownLists) (p : PackageForm) → AllByRecursion (λ e. IsWayOf ways e.way) k.entries → IsWayOf ways p.way → package_of (ways ++ more) k p ≡ package_of ways k p
package_grown ways more k p es h = λ i. record (package_of ways k p) {
  around = record { scope = p.scope; way = way_grown ways more p.way h i };
  known = known_grown ways more (lists_at p.mark k) (all_take (λ e. IsWayOf ways e.way) p.mark.entries k.entries es) i;
}

pub packages_grown : (ways more : List (List Turn)) (k : KnownLists) (ps : List PackageForm) → AllByRecursion (λ e. IsWayOf ways e.way) k.entries → AllByRecursion (λ p. IsWayOf ways p.way) ps
    → map (package_of (ways ++ more) k) ps ≡ map (package_of ways k) ps
packages_grown ways more k [] es h = refl
packages_grown ways more k (p ∷ ps) es h = ap₂ (λ (q : Package) (l : List Package). q ∷ l) (package_grown ways more k p es h.0) (packages_grown ways more k ps es h.1)

pub still_ways : (ways more : List (List Turn)) (ps : List PackageForm) → AllByRecursion (λ p. IsWayOf ways p.way) ps → AllByRecursion (λ p. IsWayOf (ways ++ more) p.way) ps
still_ways ways more ps h = all_map (λ (p : PackageForm). IsWayOf ways p.way) (λ (p : PackageForm). IsWayOf (ways ++ more) p.way) (λ p l. still_way ways more p.way l) ps h

pub still_entry_ways : (ways more : List (List Turn)) (es : List EntryForm) → AllByRecursion (λ e. IsWayOf ways e.way) es → AllByRecursion (λ e. IsWayOf (ways ++ more) e.way) es
still_entry_ways ways more es h = all_map (λ (e : EntryForm). IsWayOf ways e.way) (λ (e : EntryForm). IsWayOf (ways ++ more) e.way) (λ e l. still_way ways more e.way l) es h

-- ---- packages of lists that grow

packages_extended : (ways : List (List Turn)) (j k : KnownLists) (ps : List PackageForm) → Extends j k → AllByRecursion (λ p. IsMarkOf j p.mark) ps → map (package_of ways k) ps ≡ map (package_of ways j) ps
packages_extended ways j k [] x h = refl
packages_extended ways j k (p ∷ ps) x h = ap₂ (λ (l : KnownLists) (qs : List Package). record (package_of ways j p) { known = known_by ways l } ∷ qs) (at_same j k p.mark x h.0) (packages_extended ways j k ps x h.1)

marks_parts : (k : KnownLists) (ps : List PackageForm) (start : Mark) → AllByRecursion (IsMarkOf k) (marks_of ps start) → AllByRecursion (λ p. IsMarkOf k p.mark) ps × IsMarkOf k start
marks_parts k [] start h = (tt, h.0)
marks_parts k (p ∷ ps) start h = let r = marks_parts k ps start h.1 in ((h.0, r.0), r.1)

-- what the packages and the start of the table are, in lists that have grown
pub record AreSameAt (ways : List (List Turn)) (j k : KnownLists) (ps : List PackageForm) (m : Mark) : Type 0 where
  pub marks : AreMarksOf k (marks_of ps m)
  pub packages : map (package_of ways k) ps ≡ map (package_of ways j) ps
  pub start : lists_at m k ≡ lists_at m j

pub same_extended : (ways : List (List Turn)) (j k : KnownLists) (ps : List PackageForm) (start : Mark) → Extends j k → AreMarksOf j (marks_of ps start) → AreSameAt ways j k ps start
same_extended ways j k ps start x h =
    let parts = marks_parts j ps start (all_marks j (marks_of ps start) h) in
    record { marks = marks_still j k (marks_of ps start) x h; packages = packages_extended ways j k ps x parts.0; start = at_same j k start x parts.1 }

-- ---- back at an earlier moment

take_twice : {X : Type 0} (n : ℕ) (xs : List X) → take n (take n xs) ≡ take n xs
take_twice zero xs = refl
take_twice (suc n) [] = refl
take_twice (suc n) (x ∷ xs) = ap (λ (l : List _). x ∷ l) (take_twice n xs)

at_twice : (k : KnownLists) (m : Mark) → lists_at m (lists_at m k) ≡ lists_at m k
at_twice k m = λ i. record {
  entries = take_twice m.entries k.entries i;
  certain = ap reverse (ap (take m.certain) (reverse-reverse (take m.certain (reverse k.certain))) ∙ take_twice m.certain (reverse k.certain)) i;
  hidden = take_twice m.hidden k.hidden i;
  in_loop = m.in_loop;
}

mark_itself : (k : KnownLists) (m : Mark) → IsMarkOf k m → IsMarkOf (lists_at m k) m
mark_itself k m h = record {
  entries = omega (arith, length-take-le m.entries k.entries h.entries);
  certain = omega (arith, length-reverse (take m.certain (reverse k.certain)), length-take-le m.certain (reverse k.certain) (omega (arith, h.certain, length-reverse k.certain)));
  hidden = omega (arith, length-take-le m.hidden k.hidden h.hidden);
  ranges = subst (AreBefore m.entries) (sym (take_twice m.hidden k.hidden)) h.ranges;
}

module _ (k new : KnownLists) (m : Mark) (x : Extends (lists_at m k) new) where
  pub marks_again : (ms : List Mark) → AreMarksOf k (m ∷ ms) → AreMarksOf new (m ∷ ms)
  marks_again ms h = marks_still (lists_at m k) new (m ∷ ms) x (mark_itself k m h.0, subst (λ (l : KnownLists). AreMarksOf l ms) (sym (at_twice k m)) h.1)

  pub at_again : IsMarkOf k m → lists_at m new ≡ lists_at m k
  at_again h = at_same (lists_at m k) new m x (mark_itself k m h) ∙ at_twice k m

  outer_again : (n : Mark) → IsMarkOf (lists_at m k) n → lists_at n new ≡ lists_at n k
  outer_again n h = at_same (lists_at m k) new n x h ∙ sym (at_same (lists_at m k) k n (extends_at k m) h)

  outer_packages : (ways : List (List Turn)) (ps : List PackageForm) → AllByRecursion (λ p. IsMarkOf (lists_at m k) p.mark) ps → map (package_of ways new) ps ≡ map (package_of ways k) ps
  outer_packages ways [] h = refl
  outer_packages ways (p ∷ ps) h = ap₂ (λ (l : KnownLists) (qs : List Package). record (package_of ways k p) { known = known_by ways l } ∷ qs) (outer_again p.mark h.0) (outer_packages ways ps h.1)

-- the packages, where the lists are those of the innermost, or have grown since
pub same_again : (ways : List (List Turn)) (k new : KnownLists) (p : PackageForm) (ps : List PackageForm) (start : Mark) → Extends (lists_at p.mark k) new → AreMarksOf k (marks_of (p ∷ ps) start) → AreSameAt ways k new (p ∷ ps) start
same_again ways k new p ps start x h =
    let parts = marks_parts (lists_at p.mark k) ps start (all_marks (lists_at p.mark k) (marks_of ps start) h.1) in
    record {
      marks = marks_again k new p.mark x (marks_of ps start) h;
      packages = ap₂ (λ (l : KnownLists) (qs : List Package). record (package_of ways k p) { known = known_by ways l } ∷ qs) (at_again k new p.mark x h.0) (outer_packages k new p.mark x ways ps parts.0);
      start = outer_again k new p.mark x start parts.1;
    }

pub marks_start : (k : KnownLists) (ps : List PackageForm) (start : Mark) → AreMarksOf k (marks_of ps start) → AreMarksOf k (start ∷ [])
marks_start k [] start h = h
marks_start k (p ∷ ps) start h = marks_start k ps start (marks_outer k p.mark (marks_of ps start) h)

pub behind_extends : (k : KnownLists) (m : Mark) (keeps : Bool) → Extends (lists_at m k) (lists_behind m keeps k)
behind_extends k m keeps = record {
  entries = (drop m.entries k.entries, sym (take-append-drop m.entries k.entries));
  certain = by keeps;
  hidden = ([], sym (append-nil (take m.hidden k.hidden)));
}
  where
    by : (b : Bool) → (cs : List Certain) × (cond b k.certain (oldest m.certain k.certain) ≡ cs ++ oldest m.certain k.certain)
    by true = (extends_at k m).certain
    by false = ([], refl)

-- with one range more that is hidden
pub back_extends : (k : KnownLists) (m : Mark) (r : HiddenRange) → Extends (lists_at m k) (record (lists_behind m false k) { hidden = take m.hidden k.hidden ++ r ∷ [] })
back_extends k m r = record {
  entries = (drop m.entries k.entries, sym (take-append-drop m.entries k.entries));
  certain = ([], refl);
  hidden = (r ∷ [], refl);
}
