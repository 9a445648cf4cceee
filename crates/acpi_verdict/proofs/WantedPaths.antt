-- Sets of paths that grow by those that are asked for.
use Rattle.std.proofs.Common.{◌≡◌, ◌⊎◌, inl, inr, false, List, [], ◌∷◌, true≢false, refl, sym, ap, subst, ◌∙◌}
use Rattle.std.specs.Prelude.{IsTrue}
use Rattle.acpi_name.specs.Names.{Segment}
use Rattle.acpi_space.specs.Laws.{Among}
use Rattle.acpi_space.specs.Wanted.{Wants}
use Rattle.acpi_declare.specs.Notes.{Notes}
use Rattle.acpi_body.specs.Arguments.{with_path}
use Rattle.acpi_body.specs.steps.Gathering.{Paths, Grows}
use Rattle.acpi_body.proofs.Grown.{grows_not, grows_as, grows_then, grows_local}
use Rattle.acpi_verdict.specs.steps.Misses.{IsMissedScope}

module _ (wanted : Wants) where
  pub grow_none : (m : Paths) → Grows m m (λ p. ⊥ × IsTrue (wanted p))
  grow_none m = grows_as m m (λ p. ⊥) (λ p. ⊥ × IsTrue (wanted p)) (λ p. ((λ x. absurd x), (λ x. x.0))) (grows_not m)

  pub grow_wanted : (m n now : Paths) (q : List Segment) (ps : List (List Segment)) → IsTrue (wanted q) → n ≡ with_path m q → Grows n now (λ p. Among ps p × IsTrue (wanted p))
      → Grows m now (λ p. Among (q ∷ ps) p × IsTrue (wanted p))
  grow_wanted m n now q ps w e h =
      grows_as m now (λ p. (q ≡ p) ⊎ (Among ps p × IsTrue (wanted p))) (λ p. Among (q ∷ ps) p × IsTrue (wanted p)) (λ p. (to p, λ x. from p x.0 x.1))
      (grows_then m n now (λ p. q ≡ p) (λ p. Among ps p × IsTrue (wanted p)) (subst (λ (x : Paths). Grows m x (λ p. q ≡ p)) (sym e) (grows_local m q)) h)
    where
      to : (p : List Segment) → (q ≡ p) ⊎ (Among ps p × IsTrue (wanted p)) → Among (q ∷ ps) p × IsTrue (wanted p)
      to p (inl same) = (inl same, subst (λ (x : List Segment). IsTrue (wanted x)) same w)
      to p (inr x) = (inr x.0, x.1)

      from : (p : List Segment) → Among (q ∷ ps) p → IsTrue (wanted p) → (q ≡ p) ⊎ (Among ps p × IsTrue (wanted p))
      from p (inl same) k = inl same
      from p (inr i) k = inr (i, k)

  pub grow_unwanted : (m now : Paths) (q : List Segment) (ps : List (List Segment)) → wanted q ≡ false
      → Grows m now (λ p. Among ps p × IsTrue (wanted p)) → Grows m now (λ p. Among (q ∷ ps) p × IsTrue (wanted p))
  grow_unwanted m now q ps f h =
      grows_as m now (λ p. Among ps p × IsTrue (wanted p)) (λ p. Among (q ∷ ps) p × IsTrue (wanted p)) (λ p. ((λ x. (inr x.0, x.1)), (λ x. from p x.0 x.1))) h
    where
      from : (p : List Segment) → Among (q ∷ ps) p → IsTrue (wanted p) → Among ps p × IsTrue (wanted p)
      from p (inl same) k = absurd (true≢false (sym k ∙ ap wanted (sym same) ∙ f))
      from p (inr i) k = (i, k)

  pub grow_scopes : (m k now : Paths) (n : Notes) (ns : List Notes) → Grows m k (λ p. Among n.missed p × IsTrue (wanted p)) → Grows k now (λ p. IsMissedScope ns p × IsTrue (wanted p))
      → Grows m now (λ p. IsMissedScope (n ∷ ns) p × IsTrue (wanted p))
  grow_scopes m k now n ns g h =
      grows_as m now (λ p. (Among n.missed p × IsTrue (wanted p)) ⊎ (IsMissedScope ns p × IsTrue (wanted p))) (λ p. IsMissedScope (n ∷ ns) p × IsTrue (wanted p))
      (λ p. (to p, λ x. from p x.0.0 x.0.1 x.0.2 x.1)) (grows_then m k now (λ p. Among n.missed p × IsTrue (wanted p)) (λ p. IsMissedScope ns p × IsTrue (wanted p)) g h)
    where
      to : (p : List Segment) → (Among n.missed p × IsTrue (wanted p)) ⊎ (IsMissedScope ns p × IsTrue (wanted p)) → IsMissedScope (n ∷ ns) p × IsTrue (wanted p)
      to p (inl x) = ((n, inl refl, x.0), x.1)
      to p (inr x) = ((x.0.0, inr x.0.1, x.0.2), x.1)

      from : (p : List Segment) (o : Notes) → (n ≡ o) ⊎ Among ns o → Among o.missed p → IsTrue (wanted p)
          → (Among n.missed p × IsTrue (wanted p)) ⊎ (IsMissedScope ns p × IsTrue (wanted p))
      from p o (inl e) i w = inl (subst (λ (x : Notes). Among x.missed p) (sym e) i, w)
      from p o (inr j) i w = inr ((o, j, i), w)

  pub no_scopes : (m : Paths) → Grows m m (λ p. IsMissedScope [] p × IsTrue (wanted p))
  no_scopes m = grows_as m m (λ p. ⊥) (λ p. IsMissedScope [] p × IsTrue (wanted p)) (λ p. ((λ x. absurd x), (λ x. x.0.1))) (grows_not m)
