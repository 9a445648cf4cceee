-- What the searches of pending links miss, one after another.
use Rattle.std.proofs.Common.{◌≡◌, ◌≢◌, ◌⊎◌, ◌↔◌, inl, inr, List, [], ◌∷◌, ◌++◌, refl, sym, ap, subst}
use Rattle.std.specs.Prelude.{IsTrue}
use Rattle.std.specs.List.{filter}
use Rattle.acpi_name.specs.Names.{Segment, NameParts}
use Rattle.acpi_space.specs.Laws.{Among}
use Rattle.acpi_space.specs.Lookups.{is_defined_in}
use Rattle.acpi_space.specs.Search.{missed}
use Rattle.acpi_space.specs.Wanted.{Wants}
use Rattle.acpi_space.proofs.Filters.{among_filter}
use Rattle.acpi_space.proofs.Elements.{among_append, among_both}
use Rattle.acpi_pass.specs.declared.pending.PendingLinks.{PendingLinks}
use Rattle.acpi_pass.specs.Pending.{IsMissedLink, pending_from, pending_of, all_pending_of, linked_paths}
use Rattle.acpi_pass.specs.Links.{PendingLink}
use Rattle.acpi_pass.specs.Namespace.{Namespace}
use Rattle.acpi_pass.specs.steps.Missing.{misses_from}
use Rattle.acpi_pass.proofs.LinkAnswers.{one_more_pending}

-- ---- one of two lists

-- ---- the names of a link

module _ (w : Wants) (objects : Namespace) (s : List Segment) where
  abbrev IsMissedName : List NameParts → List Segment → Type 0
  IsMissedName ns p = (n : NameParts) × Among ns n × Among (filter w (missed (is_defined_in objects) s n)) p

  pub some_name : (ns : List NameParts) (p : List Segment) → Among (misses_from w objects s ns) p → IsMissedName ns p
  some_name [] p i = absurd i
  some_name (n ∷ ns) p i = by (some_name ns p) (among_append (filter w (missed (is_defined_in objects) s n)) (misses_from w objects s ns) p i)
    where
      by : (Among (misses_from w objects s ns) p → IsMissedName ns p) → Among (filter w (missed (is_defined_in objects) s n)) p ⊎ Among (misses_from w objects s ns) p
          → IsMissedName (n ∷ ns) p
      by more (inl j) = (n, inl refl, j)
      by more (inr j) = let r = more j in (r.0, inr r.1, r.2)

  pub any_name : (ns : List NameParts) (p : List Segment) (n : NameParts) → Among ns n → Among (filter w (missed (is_defined_in objects) s n)) p → Among (misses_from w objects s ns) p
  any_name [] p n i j = absurd i
  any_name (m ∷ ns) p n (inl e) j =
      among_both (filter w (missed (is_defined_in objects) s m)) (misses_from w objects s ns) p (inl (subst (λ (k : NameParts). Among (filter w (missed (is_defined_in objects) s k)) p) (sym e) j))
  any_name (m ∷ ns) p n (inr i) j = among_both (filter w (missed (is_defined_in objects) s m)) (misses_from w objects s ns) p (inr (any_name ns p n i j))

-- ---- the links of several paths

-- they all have that scope and those names
alike : (s : List Segment) (ns : List NameParts) (ps : List (List Segment)) (w : PendingLink) → Among (pending_from s ns ps) w → (w.scope ≡ s) × (w.names ≡ ns)
alike s ns [] w i = absurd i
alike s ns (p ∷ ps) w (inl e) = (ap (λ (v : PendingLink). v.scope) (sym e), ap (λ (v : PendingLink). v.names) (sym e))
alike s ns (p ∷ ps) w (inr i) = alike s ns ps w i

module _ (w : Wants) (objects : Namespace) (s : List Segment) (ns : List NameParts) (ps : List (List Segment)) where
  to_names : (p : List Segment) → IsMissedLink objects (pending_from s ns ps) p → IsTrue (w p) → Among (misses_from w objects s ns) p
  to_names p r t =
      let a = alike s ns ps r.0 r.1 in
      let i = subst (λ (t : List Segment). Among (missed (is_defined_in objects) t r.2) p) a.0 r.4 in
      any_name w objects s ns p r.2 (subst (λ (l : List NameParts). Among l r.2) a.1 r.3) ((among_filter w (missed (is_defined_in objects) s r.2) p).1 (i, t))

  from_names : ps ≢ [] → (p : List Segment) → Among (misses_from w objects s ns) p → IsMissedLink objects (pending_from s ns ps) p × IsTrue (w p)
  from_names some p i =
      let r = some_name w objects s ns p i in
      let k = (among_filter w (missed (is_defined_in objects) s r.0) p).0 r.2 in
      by ps some r.0 r.1 k.0 k.1
    where
      by : (ps : List (List Segment)) → ps ≢ [] → (n : NameParts) → Among ns n → Among (missed (is_defined_in objects) s n) p → IsTrue (w p)
          → IsMissedLink objects (pending_from s ns ps) p × IsTrue (w p)
      by [] some n j m t = absurd (some refl)
      by (q ∷ ps) some n j m t = ((record { path = q; scope = s; names = ns }, inl refl, n, j, m), t)

-- ---- the links so far, and one more

module _ (asked : Wants) (objects : Namespace) (ws : List PendingLinks) (w : PendingLinks) (before : List (List Segment))
    (are : (p : List Segment) → Among before p ↔ (IsMissedLink objects (all_pending_of ws) p × IsTrue (asked p))) where
  earlier : (p : List Segment) → IsMissedLink objects (all_pending_of ws) p → IsMissedLink objects (all_pending_of ws ++ pending_of w) p
  earlier p r = (r.0, among_both (all_pending_of ws) (pending_of w) r.0 (inl r.1), r.2, r.3, r.4)

  this : (p : List Segment) → IsMissedLink objects (pending_of w) p → IsMissedLink objects (all_pending_of ws ++ pending_of w) p
  this p r = (r.0, among_both (all_pending_of ws) (pending_of w) r.0 (inr r.1), r.2, r.3, r.4)

  either : (p : List Segment) → IsMissedLink objects (all_pending_of ws ++ pending_of w) p → IsMissedLink objects (all_pending_of ws) p ⊎ IsMissedLink objects (pending_of w) p
  either p r = by (among_append (all_pending_of ws) (pending_of w) r.0 r.1)
    where
      by : Among (all_pending_of ws) r.0 ⊎ Among (pending_of w) r.0 → IsMissedLink objects (all_pending_of ws) p ⊎ IsMissedLink objects (pending_of w) p
      by (inl i) = inl (r.0, i, r.2, r.3, r.4)
      by (inr i) = inr (r.0, i, r.2, r.3, r.4)

  abbrev AreMissed : List (List Segment) → List PendingLink → Type 0
  AreMissed items links = (p : List Segment) → Among items p ↔ (IsMissedLink objects links p × IsTrue (asked p))

  pub with_paths : (after : List (List Segment)) → (linked_paths w.scope w.paths) ≢ [] → after ≡ before ++ misses_from asked objects w.scope w.names.items → AreMissed after (all_pending_of (ws ++ w ∷ []))
  with_paths after some e =
      subst (λ (l : List (List Segment)). AreMissed l (all_pending_of (ws ++ w ∷ []))) (sym e)
      (subst (AreMissed (before ++ misses_from asked objects w.scope w.names.items)) (sym (one_more_pending ws w)) (λ p. (
        (λ i. to p (among_append before (misses_from asked objects w.scope w.names.items) p i)),
        (λ r. from p (either p r.0) r.1),
      )))
    where
      to : (p : List Segment) → Among before p ⊎ Among (misses_from asked objects w.scope w.names.items) p → IsMissedLink objects (all_pending_of ws ++ pending_of w) p × IsTrue (asked p)
      to p (inl i) = let r = (are p).0 i in (earlier p r.0, r.1)
      to p (inr i) = let r = from_names asked objects w.scope w.names.items (linked_paths w.scope w.paths) some p i in (this p r.0, r.1)

      from : (p : List Segment) → IsMissedLink objects (all_pending_of ws) p ⊎ IsMissedLink objects (pending_of w) p → IsTrue (asked p)
          → Among (before ++ misses_from asked objects w.scope w.names.items) p
      from p (inl r) t = among_both before (misses_from asked objects w.scope w.names.items) p (inl ((are p).1 (r, t)))
      from p (inr r) t = among_both before (misses_from asked objects w.scope w.names.items) p (inr (to_names asked objects w.scope w.names.items (linked_paths w.scope w.paths) p r t))

  pub without_paths : (linked_paths w.scope w.paths) ≡ [] → AreMissed before (all_pending_of (ws ++ w ∷ []))
  without_paths none = subst (AreMissed before) (sym (one_more_pending ws w)) (λ p. ((λ i. let r = (are p).0 i in (earlier p r.0, r.1)), (λ r. back p (either p r.0) r.1)))
    where
      back : (p : List Segment) → IsMissedLink objects (all_pending_of ws) p ⊎ IsMissedLink objects (pending_of w) p → IsTrue (asked p) → Among before p
      back p (inl r) t = (are p).1 (r, t)
      back p (inr r) t = absurd (subst (λ (ps : List (List Segment)). Among (pending_from w.scope w.names.items ps) r.0) none r.1)
