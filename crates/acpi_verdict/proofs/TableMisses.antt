-- What the links and bodies of one table miss and await, of the paths that are asked for.
use Rattle.std.proofs.Common.{◌≡◌, ◌⊎◌, ◌↔◌, inl, inr, ℕ, true, List, [], ◌∷◌, ◌++◌, Some, refl, sym, subst}
use Rattle.std.specs.Prelude.{IsTrue}
use Rattle.std.specs.FinMap.{get, empty}
use Rattle.std.proofs.lemmas.List.{append-nil}
use Rattle.acpi_name.specs.Names.{Segment}
use Rattle.acpi_space.specs.Laws.{Among}
use Rattle.acpi_space.specs.Lookups.{Lookup}
use Rattle.acpi_space.specs.Wanted.{Wants}
use Rattle.acpi_declare.specs.Declaring.{State}
use Rattle.acpi_pass.specs.Pending.{IsMissedLink}
use Rattle.acpi_declare.specs.Links.{PendingLink, pending_links}
use Rattle.acpi_declare.specs.Namespace.{Namespace}
use Rattle.acpi_declare.specs.Notes.{Notes, notes_on, external_counts}
use Rattle.acpi_declare.specs.Notes as notes
use Rattle.acpi_body.specs.declared.misses.BodyMisses.{BodyMisses}
use Rattle.acpi_body.specs.Bodies.{BodyTree}
use Rattle.acpi_body.specs.Misses.{IsFirmMiss, IsOpenMiss}
use Rattle.acpi_body.specs.steps.Gathering.{Paths, Grows}
use Rattle.acpi_body.proofs.Grown.{grows_not, grows_as, grows_then}
use Rattle.acpi_order.specs.Bodies.{Method, methods_of, IsBody}
use Rattle.acpi_order.specs.Misses.{Listing, IsBodyMiss, IsAwaiting}
use Rattle.acpi_order.proofs.ReadBodies.{one_body_there}
use Rattle.acpi_order.specs.steps.Noted.{all_noted}
use Rattle.acpi_verdict.specs.declared.misses.Misses.{Misses}
use Rattle.acpi_verdict.specs.steps.Misses.{all_paths, IsMissedByAny, IsAwaitedByAny, IsTableMiss, AddsBody, AddsMethod, AddsMethods, AreMisses}
use Rattle.acpi_verdict.proofs.AwaitedCounts.{alike, IsAwaitedHere, awaited_here}

-- ---- one method, as the code does it

module _ (wanted : Wants) (depth : ℕ) (objects : Namespace) (m : Method) (b : BodyTree) (is_body : IsBody depth objects m b) where
  -- what is true of the body is true of the method
  body_miss : (p : List Segment) → (IsFirmMiss objects m.counts m.path b p × IsTrue (wanted p)) ↔ (IsBodyMiss depth objects m p × IsTrue (wanted p))
  body_miss p = (
    (λ x. ((b, is_body, x.0), x.1)),
    (λ x. (subst (λ (y : BodyTree). IsFirmMiss objects m.counts m.path y p) (one_body_there depth objects m x.0.0 b x.0.1 is_body) x.0.2, x.1)),
  )

  body_awaits : (p : List Segment) (n : ℕ) → (IsOpenMiss objects m.counts m.path b p n × IsTrue (wanted p)) ↔ (IsAwaiting depth objects m p n × IsTrue (wanted p))
  body_awaits p n = (
    (λ x. ((b, is_body, x.0), x.1)),
    (λ x. (subst (λ (y : BodyTree). IsOpenMiss objects m.counts m.path y p n) (one_body_there depth objects m x.0.0 b x.0.1 is_body) x.0.2, x.1)),
  )

  pub adds_method : (body : BodyMisses) (before now : Misses)
      → ((p : List Segment) → Among body.firm.items p ↔ (IsFirmMiss objects m.counts m.path b p × IsTrue (wanted p)))
      → ((p : List Segment) (n : ℕ) → Among body.open.items (record { path = p; count = n }) ↔ (IsOpenMiss objects m.counts m.path b p n × IsTrue (wanted p)))
      → AddsBody body before now → AddsMethod wanted depth objects m before now
  adds_method body before now firm awaits h = record {
    missed_are = grows_as before.missed now.missed (Among body.firm.items) (λ p. IsBodyMiss depth objects m p × IsTrue (wanted p))
        (λ p. ((λ i. (body_miss p).0 ((firm p).0 i)), (λ x. (firm p).1 ((body_miss p).1 x)))) h.missed_are;
    opens = body.open.items;
    opens_are = λ p n. ((λ i. (body_awaits p n).0 ((awaits p n).0 i)), (λ x. (awaits p n).1 ((body_awaits p n).1 x)));
    awaited_are = h.awaited_are;
  }

-- some methods, and others behind them
pub adds_methods_both : (wanted : Wants) (depth : ℕ) (objects : Namespace) (ms ns : List Method) (first second third : Misses)
    → AddsMethods wanted depth objects ms first second → AddsMethods wanted depth objects ns second third → AddsMethods wanted depth objects (ms ++ ns) first third
adds_methods_both wanted depth objects [] ns first second third h k = subst (λ (t : Misses). AddsMethods wanted depth objects ns t third) h k
adds_methods_both wanted depth objects (m ∷ ms) ns first second third h k = (h.0, h.1, adds_methods_both wanted depth objects ms ns h.0 second third h.2 k)

module _ (wanted : Wants) (depth : ℕ) (objects : Namespace) where
  -- ---- what bodies miss

  abbrev IsMissedHere : List Method → List Segment → Type 0
  IsMissedHere ms p = IsMissedByAny depth objects ms p × IsTrue (wanted p)

  one_more : (m : Method) (ms : List Method) (p : List Segment) → (IsBodyMiss depth objects m p × IsTrue (wanted p)) ⊎ IsMissedHere ms p → IsMissedHere (m ∷ ms) p
  one_more m ms p (inl x) = ((m, inl refl, x.0), x.1)
  one_more m ms p (inr x) = ((x.0.0, inr x.0.1, x.0.2), x.1)

  one_of : (m : Method) (ms : List Method) (p : List Segment) (k : Method) → (m ≡ k) ⊎ Among ms k → IsBodyMiss depth objects k p → IsTrue (wanted p)
      → (IsBodyMiss depth objects m p × IsTrue (wanted p)) ⊎ IsMissedHere ms p
  one_of m ms p k (inl e) x w = inl (subst (λ (j : Method). IsBodyMiss depth objects j p) (sym e) x, w)
  one_of m ms p k (inr i) x w = inr ((k, i, x), w)

  bodies_grow : (ms : List Method) (before now : Misses) → AddsMethods wanted depth objects ms before now → Grows before.missed now.missed (IsMissedHere ms)
  bodies_grow [] before now h =
      rw h (grows_as before.missed before.missed (λ p. ⊥) (IsMissedHere []) (λ p. (λ x. absurd x, λ x. absurd x.0.1)) (grows_not before.missed))
  bodies_grow (m ∷ ms) before now h =
      let one : AddsMethod wanted depth objects m before h.0 = h.1 in
      grows_as before.missed now.missed (λ p. (IsBodyMiss depth objects m p × IsTrue (wanted p)) ⊎ IsMissedHere ms p) (IsMissedHere (m ∷ ms))
      (λ p. (λ x. one_more m ms p x, λ x. one_of m ms p x.0.0 x.0.1 x.0.2 x.1))
      (grows_then before.missed h.0.missed now.missed (λ p. IsBodyMiss depth objects m p × IsTrue (wanted p)) (IsMissedHere ms) one.missed_are (bodies_grow ms h.0 now h.2))

  -- ---- one table

  module _ (tables : State) (over : Namespace) (t : Listing) (links_are : tables.links ≡ pending_links t) (notes_are : tables.notes ≡ notes_on over t ∷ [])
      (before : Paths) (now : Misses) (h : AreMisses wanted depth objects tables before now) where
    abbrev start : Misses
    start = record { missed = h.linked; awaited = empty }

    bodies : AddsMethods wanted depth objects (methods_of t) start now
    bodies =
        subst (λ (ms : List Method). AddsMethods wanted depth objects ms start now) (append-nil (methods_of t))
        (subst (λ (ns : List Notes). AddsMethods wanted depth objects (all_noted ns) start now) notes_are h.bodies)

    links : Grows before h.linked (λ p. IsMissedLink objects (pending_links t) p × IsTrue (wanted p))
    links = subst (λ (ws : List PendingLink). Grows before h.linked (λ p. IsMissedLink objects ws p × IsTrue (wanted p))) links_are h.links_are

    table_of : (p : List Segment) → (IsMissedLink objects (pending_links t) p × IsTrue (wanted p)) ⊎ IsMissedHere (methods_of t) p → IsTableMiss depth objects t p × IsTrue (wanted p)
    table_of p (inl x) = (inl x.0, x.1)
    table_of p (inr x) = (inr x.0, x.1)

    of_table : (p : List Segment) → IsTableMiss depth objects t p → IsTrue (wanted p) → (IsMissedLink objects (pending_links t) p × IsTrue (wanted p)) ⊎ IsMissedHere (methods_of t) p
    of_table p (inl x) w = inl (x, w)
    of_table p (inr x) w = inr (x, w)

    pub table_missed : Grows before now.missed (λ p. IsTableMiss depth objects t p × IsTrue (wanted p))
    table_missed =
        grows_as before now.missed (λ p. (IsMissedLink objects (pending_links t) p × IsTrue (wanted p)) ⊎ IsMissedHere (methods_of t) p) (λ p. IsTableMiss depth objects t p × IsTrue (wanted p))
        (λ p. (λ x. table_of p x, λ x. of_table p x.0 x.1))
        (grows_then before h.linked now.missed (λ p. IsMissedLink objects (pending_links t) p × IsTrue (wanted p)) (IsMissedHere (methods_of t)) links (bodies_grow (methods_of t) start now bodies))

    pub table_awaited : (p : List Segment) (n : ℕ) → (get now.awaited p ≡ Some n) ↔ IsAwaitedHere wanted depth objects (methods_of t) p n
    table_awaited = awaited_here wanted depth objects (external_counts t) (methods_of t) start now (alike (external_counts t) (notes.methods t)) bodies refl

-- ---- all paths

pub asked_of_all : {P Q : Type 0} → (Q ↔ P) → (Q ↔ (P × IsTrue true))
asked_of_all h = ((λ q. (h.0 q, refl)), (λ x. h.1 x.0))

module _ (depth : ℕ) (objects : Namespace) (ms : List Method) (before now : Misses) (h : AddsMethods all_paths depth objects ms before now) where
  pub all_missed : Grows before.missed now.missed (IsMissedByAny depth objects ms)
  all_missed =
      grows_as before.missed now.missed (λ p. IsMissedByAny depth objects ms p × IsTrue true) (IsMissedByAny depth objects ms) (λ p. ((λ x. x.0), (λ x. (x, refl))))
      (bodies_grow all_paths depth objects ms before now h)

  pub all_awaited : (externals : Lookup ℕ) → ((m : Method) → Among ms m → m.counts ≡ externals) → before.awaited ≡ empty
      → (p : List Segment) (n : ℕ) → (get now.awaited p ≡ Some n) ↔ IsAwaitedByAny depth objects ms p n
  all_awaited externals same none p n =
      let r = awaited_here all_paths depth objects externals ms before now same h none p n in
      ((λ e. (r.0 e).0), (λ x. r.1 (x, refl)))
