-- Runs of tables, one after another.
use Rattle.std.proofs.Common.{◌≡◌, Bool, true, false, cond, not, List, [], ◌∷◌, ◌++◌, ◌⊎◌, inl, inr, Some, refl, sym, ap, subst}
use Rattle.std.specs.List.{AllByRecursion, flat_map}
use Rattle.std.specs.Prelude.{IsTrue}
use Rattle.acpi_space.specs.Laws.{Among}
use Rattle.acpi_space.proofs.Elements.{among_left, among_right, among_append}
use Rattle.acpi_conditions.specs.Nodes.{Term, Nodes}
use Rattle.acpi_conditions.specs.Entries.{Path, Namespace, is_empty, Entry, HasNoCondition, Refusal}
use Rattle.acpi_conditions.specs.Known.{Certain, Known, settled, IsTrueOf}
use Rattle.acpi_conditions.specs.Survey.{at_root, Survey, lasting, behind_table, table_survey, known_behind, surveys, all_entries, all_refused}
use Rattle.acpi_conditions.specs.Runs.{Event, State, Ending, IsRun, AreRuns}
use Rattle.acpi_conditions.specs.Laws.{IsMatched, AreSure, IsRunOf}
use Rattle.acpi_conditions.proofs.Basics.{among_flat}
use Rattle.acpi_conditions.proofs.Declaring.{AreCertain}
use Rattle.acpi_conditions.proofs.Outcomes.{IsEntryAt, Grows, certain_grow, Lasts, lasts_grow, Outcome, IsCovered}
use Rattle.acpi_conditions.proofs.Steps.{sound_nodes}

empty_is : {X : Type 0} (xs : List X) → is_empty xs ≡ true → xs ≡ []
empty_is [] e = refl
empty_is (x ∷ xs) e = cc

lasting_at : (objects : Namespace) (e : Entry) (b : Bool) → is_empty e.way ≡ b → (e.way ≡ [] → AreCertain objects (settled e)) → AreCertain objects (cond b (settled e) [])
lasting_at objects e true is all = all (empty_is e.way is)
lasting_at objects e false is all = λ c m. absurd m

pub true_behind_table : (F : List Entry) (R : List Refusal) (k : Known) (x : Survey) (S M : State) (e : Ending) → IsTrueOf S.objects k → Outcome F R x S e M → IsTrueOf M.objects (behind_table k x)
true_behind_table F R k x S M e h o = record {
  certain = λ c m. certain c (among_append (flat_map lasting x.entries) k.certain c m);
  possible = λ l p t is. possible l p t (o.fresh p t is);
}
  where
    certain : (c : Certain) → Among (flat_map lasting x.entries) c ⊎ Among k.certain c → (t : Term) × (M.objects c.path ≡ Some t) × (IsTrue c.is_scope → IsTrue t.is_scope)
    certain c (inl m) =
        let n = among_flat lasting x.entries c m in
        lasting_at M.objects n.0 (is_empty n.0.way) refl (λ is. (o.lasting n.0 n.1 is).0) c n.2
    certain c (inr m) = certain_grow S.objects M.objects k.certain o.grows h.certain c m

    possible : IsTrue (not k.in_loop) → (p : Path) (t : Term) → (S.objects p ≡ Some t) ⊎ IsEntryAt x.entries p t → (e : Entry) × Among (k.entries ++ x.entries) e × (e.path ≡ p) × (e.term ≡ t)
    possible l p t (inl e) = let n = h.possible l p t e in (n.0, among_left k.entries x.entries n.0 n.1, n.2, n.3)
    possible l p t (inr n) = (n.0, among_right k.entries x.entries n.0 n.1, n.2, n.3)

-- what a run of tables leads to
pub record Total (F : List Entry) (R : List Refusal) (k : Known) (xs : List Survey) (last : Known) (S S' : State) : Type 0 where
  pub grows : Grows S.objects S'.objects
  pub fresh : (p : Path) (t : Term) → S'.objects p ≡ Some t → (S.objects p ≡ Some t) ⊎ IsEntryAt (all_entries xs) p t
  pub matches : AllByRecursion (IsMatched F R) S.events → AllByRecursion (IsMatched F R) S'.events
  pub lasting : (e : Entry) → Among (all_entries xs) e → e.way ≡ [] → Lasts S'.objects e
  pub known : IsTrueOf S'.objects last

module _ (F : List Entry) (R : List Refusal) (sure : AreSure R) where
  pub table_outcome : (k : Known) (t : Nodes) (S : State) (e : Ending) (M : State) → IsTrueOf S.objects k → IsCovered F R (table_survey k t) → IsRun t [] [] S e M → Outcome F R (table_survey k t) S e M
  table_outcome k t S e M h c run = sound_nodes F R sure t at_root k [] S e M h tt c run

  pub total : (k : Known) (ts : List Nodes) (S S' : State) → IsTrueOf S.objects k → ((e : Entry) → Among (all_entries (surveys k ts)) e → Among F e)
      → ((r : Refusal) → Among (all_refused (surveys k ts)) r → Among R r) → AreRuns ts S S' → Total F R k (surveys k ts) (known_behind k ts) S S'
  total k [] S S' h es rs run = subst (λ (T : State). Total F R k [] k S T) (sym run) (record {
    grows = λ p t is. is;
    fresh = λ p t is. inl is;
    matches = λ all. all;
    lasting = λ e m. absurd m;
    known = h;
  })
  total k (t ∷ ts) S S' h es rs run =
      let x : Survey = table_survey k t in
      let M : State = run.1 in
      let more : List Survey = surveys (behind_table k x) ts in
      let o : Outcome F R x S run.0 M = table_outcome k t S run.0 M h
      (record { entries = λ e m. es e (among_left x.entries (all_entries more) e m); refused = λ r m. rs r (among_left x.refused (all_refused more) r m) }) run.2 in
      let n : Total F R (behind_table k x) more (known_behind (behind_table k x) ts) M S' = total (behind_table k x) ts M S' (true_behind_table F R k x S M run.0 h o)
      (λ e m. es e (among_right x.entries (all_entries more) e m)) (λ r m. rs r (among_right x.refused (all_refused more) r m)) run.3 in
      both k x more (known_behind (behind_table k x) ts) S M S' run.0 o n
    where
      both : (k : Known) (x : Survey) (more : List Survey) (last : Known) (S M S' : State) (e : Ending) → Outcome F R x S e M → Total F R (behind_table k x) more last M S' → Total F R k (x ∷ more) last S S'
      both k x more last S M S' e o n = record {
        grows = λ p t is. n.grows p t (o.grows p t is);
        fresh = λ p t is. back p t (n.fresh p t is);
        matches = λ all. n.matches (o.matches all);
        lasting = λ en m is. at en is (among_append x.entries (all_entries more) en m);
        known = n.known;
      }
        where
          here : (p : Path) (t : Term) → (S.objects p ≡ Some t) ⊎ IsEntryAt x.entries p t → (S.objects p ≡ Some t) ⊎ IsEntryAt (x.entries ++ all_entries more) p t
          here p t (inl is) = inl is
          here p t (inr q) = inr (q.0, among_left x.entries (all_entries more) q.0 q.1, q.2, q.3)

          back : (p : Path) (t : Term) → (M.objects p ≡ Some t) ⊎ IsEntryAt (all_entries more) p t → (S.objects p ≡ Some t) ⊎ IsEntryAt (x.entries ++ all_entries more) p t
          back p t (inl is) = here p t (o.fresh p t is)
          back p t (inr q) = inr (q.0, among_right x.entries (all_entries more) q.0 q.1, q.2, q.3)

          at : (en : Entry) → en.way ≡ [] → Among x.entries en ⊎ Among (all_entries more) en → Lasts S'.objects en
          at en is (inl m) = lasts_grow M.objects S'.objects en n.grows (o.lasting en m is)
          at en is (inr m) = n.lasting en m is

-- ---- the laws

module _ (k : Known) (ts : List Nodes) (S S' : State) (r : IsRunOf k ts S S') where
  all_of_it : Total (all_entries (surveys k ts)) (all_refused (surveys k ts)) k (surveys k ts) (known_behind k ts) S S'
  all_of_it = total (all_entries (surveys k ts)) (all_refused (surveys k ts)) r.sure k ts S S' r.known (λ e m. m) (λ q m. m) r.run

  pub survey_is_exact : AllByRecursion (IsMatched (all_entries (surveys k ts)) (all_refused (surveys k ts))) S'.events
  survey_is_exact = all_of_it.matches (subst (λ (es : List Event). AllByRecursion (IsMatched (all_entries (surveys k ts)) (all_refused (surveys k ts))) es) (sym r.nothing_yet.0) tt)

  pub made_is_entry : (p : Path) (t : Term) → S'.objects p ≡ Some t → (S.objects p ≡ Some t) ⊎ IsEntryAt (all_entries (surveys k ts)) p t
  made_is_entry = all_of_it.fresh

  pub unconditional_is_made : (e : Entry) → Among (all_entries (surveys k ts)) e → HasNoCondition e → S'.objects e.path ≡ Some e.term
  unconditional_is_made e m c = (all_of_it.lasting e m c.0).1 c.1

  pub known_stays_true : IsTrueOf S'.objects (known_behind k ts)
  known_stays_true = all_of_it.known

pub longer_begins : (k : Known) (ts us : List Nodes) → surveys k (ts ++ us) ≡ surveys k ts ++ surveys (known_behind k ts) us
longer_begins k [] us = refl
longer_begins k (t ∷ ts) us = ap (λ xs. table_survey k t ∷ xs) (longer_begins (behind_table k (table_survey k t)) ts us)
