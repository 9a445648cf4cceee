-- What a run of nodes leads to, beside what their survey says; one after another.
use Rattle.std.proofs.Common.{◌≡◌, not, List, [], ◌∷◌, ◌++◌, map, ◌⊎◌, inl, inr, Some, refl, sym, subst}
use Rattle.std.specs.List.{AllByRecursion}
use Rattle.std.specs.Prelude.{IsTrue}
use Rattle.acpi_space.specs.Laws.{Among}
use Rattle.acpi_space.proofs.Elements.{among_left, among_right, among_append, all_append}
use Rattle.acpi_conditions.specs.Nodes.{Term, Stop}
use Rattle.acpi_conditions.specs.Entries.{Path, Namespace, Turn, past, asks_nothing, Entry, Refusal, StopAt}
use Rattle.acpi_conditions.specs.Known.{Certain, Known, settled, IsTrueOf}
use Rattle.acpi_conditions.specs.Survey.{Around, Survey, Surveying, behind, passing, joined, followed_by}
use Rattle.acpi_conditions.specs.Runs.{State, Ending, goes_on, stops, Running, Continues, IsFollowed}
use Rattle.acpi_conditions.specs.Laws.{HasTurn, IsMatched}
use Rattle.acpi_conditions.proofs.Basics.{append_nothing, map_nothing, among_nothing}
use Rattle.acpi_conditions.proofs.Declaring.{AreCertain}

abbrev pub IsEntryAt : List Entry → Path → Term → Type 0
IsEntryAt es p t = (e : Entry) × Among es e × (e.path ≡ p) × (e.term ≡ t)

abbrev pub HasStop : List StopAt → State → Stop → Type 0
HasStop ms S kind = (m : StopAt) × Among ms m × (m.kind ≡ kind) × Among S.stop_places m.place

abbrev pub Grows : Namespace → Namespace → Type 0
Grows objects more = (p : Path) (t : Term) → objects p ≡ Some t → more p ≡ Some t

pub certain_grow : (objects more : Namespace) (cs : List Certain) → Grows objects more → AreCertain objects cs → AreCertain more cs
certain_grow objects more cs up all c m = let a = all c m in (a.0, up c.path a.0 a.1, a.2)

-- what an entry to which control comes in any case leaves
abbrev pub Lasts : Namespace → Entry → Type 0
Lasts objects e = AreCertain objects (settled e) × (IsTrue (asks_nothing e.asks) → objects e.path ≡ Some e.term)

pub lasts_grow : (objects more : Namespace) (e : Entry) → Grows objects more → Lasts objects e → Lasts more e
lasts_grow objects more e up l = (certain_grow objects more (settled e) up l.0, λ q. up e.path e.term (l.1 q))

-- nodes that give x have run from S to S'; F and R are all entries and refusals of the tables
pub record Outcome (F : List Entry) (R : List Refusal) (x : Survey) (S : State) (e : Ending) (S' : State) : Type 0 where
  pub grows : Grows S.objects S'.objects
  pub fresh : (p : Path) (t : Term) → S'.objects p ≡ Some t → (S.objects p ≡ Some t) ⊎ IsEntryAt x.entries p t
  pub matches : AllByRecursion (IsMatched F R) S.events → AllByRecursion (IsMatched F R) S'.events
  pub certain : e ≡ goes_on → AreCertain S'.objects x.certain
  pub met : (kind : Stop) → e ≡ stops kind → HasStop x.stops S' kind
  pub lasting : (en : Entry) → Among x.entries en → en.way ≡ [] → Lasts S'.objects en

pub record IsCovered (F : List Entry) (R : List Refusal) (x : Survey) : Type 0 where
  pub entries : (e : Entry) → Among x.entries e → Among F e
  pub refused : (r : Refusal) → Among x.refused r → Among R r

-- a run of these nodes leads to what their survey says
abbrev pub IsSound : List Entry → List Refusal → Surveying → Running → Type 0
IsSound F R x r = (a : Around) (k : Known) (w : List Turn) (S : State) (e : Ending) (S' : State) → IsTrueOf S.objects k → AllByRecursion (HasTurn w) a.way → IsCovered F R (x a k)
    → r a.scope w S e S' → Outcome F R (x a k) S e S'

-- an entry to which control comes in any case stands where it comes in any case
abbrev pub IsRooted : Surveying → Type 0
IsRooted x = (a : Around) (k : Known) (e : Entry) → Among (x a k).entries e → e.way ≡ [] → a.way ≡ []

pub rooted_followed : (here rest : Surveying) → IsRooted here → IsRooted rest → IsRooted (followed_by here rest)
rooted_followed here rest rh rr a k e m is = by (among_append (here a k).entries (rest (passing a (here a k)) (behind k (here a k))).entries e m)
  where
    by : Among (here a k).entries e ⊎ Among (rest (passing a (here a k)) (behind k (here a k))).entries e → a.way ≡ []
    by (inl m) = rh a k e m is
    by (inr m) = (append_nothing a.way (map (λ s. past s.place) (here a k).stops) (rr (passing a (here a k)) (behind k (here a k)) e m is)).0

-- ---- what is known behind nodes

pub true_behind : (F : List Entry) (R : List Refusal) (k : Known) (x : Survey) (S M : State) → IsTrueOf S.objects k → Outcome F R x S goes_on M → IsTrueOf M.objects (behind k x)
true_behind F R k x S M h o = record {
  certain = o.certain refl;
  possible = λ l p t e. by l p t (o.fresh p t e);
}
  where
    by : IsTrue (not k.in_loop) → (p : Path) (t : Term) → (S.objects p ≡ Some t) ⊎ IsEntryAt x.entries p t → (e : Entry) × Among (k.entries ++ x.entries) e × (e.path ≡ p) × (e.term ≡ t)
    by l p t (inl e) = let n = h.possible l p t e in (n.0, among_left k.entries x.entries n.0 n.1, n.2, n.3)
    by l p t (inr n) = (n.0, among_right k.entries x.entries n.0 n.1, n.2, n.3)

-- ---- one after another

pub past_turns : (w : List Turn) (ms : List StopAt) → AllByRecursion (HasTurn w) (map (λ s. past s.place) ms)
past_turns w [] = tt
past_turns w (m ∷ ms) = (tt, past_turns w ms)

module _ (F : List Entry) (R : List Refusal) where
  pub covered_here : (x y : Survey) → IsCovered F R (joined x y) → IsCovered F R x
  covered_here x y c = record {
    entries = λ e m. c.entries e (among_left x.entries y.entries e m);
    refused = λ r m. c.refused r (among_left x.refused y.refused r m);
  }

  pub covered_rest : (x y : Survey) → IsCovered F R (joined x y) → IsCovered F R y
  covered_rest x y c = record {
    entries = λ e m. c.entries e (among_right x.entries y.entries e m);
    refused = λ r m. c.refused r (among_right x.refused y.refused r m);
  }

  went_on : (x y : Survey) (S M S' : State) (e : Ending) → Outcome F R x S goes_on M → Outcome F R y M e S' → Outcome F R (joined x y) S e S'
  went_on x y S M S' e o n = record {
    grows = λ p t is. n.grows p t (o.grows p t is);
    fresh = λ p t is. back p t (n.fresh p t is);
    matches = λ all. n.matches (o.matches all);
    certain = n.certain;
    met = λ kind is. let s = n.met kind is in (s.0, among_right x.stops y.stops s.0 s.1, s.2, s.3);
    lasting = λ en m is. last en is (among_append x.entries y.entries en m);
  }
    where
      here : (p : Path) (t : Term) → (S.objects p ≡ Some t) ⊎ IsEntryAt x.entries p t → (S.objects p ≡ Some t) ⊎ IsEntryAt (x.entries ++ y.entries) p t
      here p t (inl is) = inl is
      here p t (inr q) = inr (q.0, among_left x.entries y.entries q.0 q.1, q.2, q.3)

      back : (p : Path) (t : Term) → (M.objects p ≡ Some t) ⊎ IsEntryAt y.entries p t → (S.objects p ≡ Some t) ⊎ IsEntryAt (x.entries ++ y.entries) p t
      back p t (inl is) = here p t (o.fresh p t is)
      back p t (inr q) = inr (q.0, among_right x.entries y.entries q.0 q.1, q.2, q.3)

      last : (en : Entry) → en.way ≡ [] → Among x.entries en ⊎ Among y.entries en → Lasts S'.objects en
      last en is (inl m) = lasts_grow M.objects S'.objects en n.grows (o.lasting en m is)
      last en is (inr m) = n.lasting en m is

  stopped : (x y : Survey) (S M : State) (kind : Stop) → Outcome F R x S (stops kind) M → ((en : Entry) → Among y.entries en → en.way ≡ [] → ⊥) → Outcome F R (joined x y) S (stops kind) M
  stopped x y S M kind o unreached = record {
    grows = o.grows;
    fresh = λ p t is. here p t (o.fresh p t is);
    matches = o.matches;
    certain = λ is. let f : ⊥ = cc in absurd f;
    met = λ other is. let s = o.met other is in (s.0, among_left x.stops y.stops s.0 s.1, s.2, s.3);
    lasting = λ en m is. last en is (among_append x.entries y.entries en m);
  }
    where
      here : (p : Path) (t : Term) → (S.objects p ≡ Some t) ⊎ IsEntryAt x.entries p t → (S.objects p ≡ Some t) ⊎ IsEntryAt (x.entries ++ y.entries) p t
      here p t (inl is) = inl is
      here p t (inr q) = inr (q.0, among_left x.entries y.entries q.0 q.1, q.2, q.3)

      last : (en : Entry) → en.way ≡ [] → Among x.entries en ⊎ Among y.entries en → Lasts M.objects en
      last en is (inl m) = o.lasting en m is
      last en is (inr m) = absurd (unreached en m is)

  module _ (here rest : Surveying) (rh rr : Running) (sh : IsSound F R here rh) (sr : IsSound F R rest rr) (root : IsRooted rest) (a : Around) (k : Known) (w : List Turn) (S : State) (e : Ending) (S' : State)
      (h : IsTrueOf S.objects k) (way : AllByRecursion (HasTurn w) a.way) where
    abbrev x : Survey
    x = here a k

    abbrev y : Survey
    y = rest (passing a x) (behind k x)

    followed : IsCovered F R (joined x y) → (m : Ending) (M : State) → rh a.scope w S m M → Continues m (rr a.scope w) M e S' → Outcome F R (joined x y) S e S'
    followed c goes_on M r next =
        let o : Outcome F R x S goes_on M = sh a k w S goes_on M h way (covered_here x y c) r in
        let n : Outcome F R y M e S' = sr (passing a x) (behind k x) w M e S' (true_behind F R k x S M h o)
        (all_append (HasTurn w) a.way (map (λ s. past s.place) x.stops) way (past_turns w x.stops)) (covered_rest x y c) next in
        went_on x y S M S' e o n
    followed c (stops kind) M r next =
        let o : Outcome F R x S (stops kind) M = sh a k w S (stops kind) M h way (covered_here x y c) r in
        let n : Outcome F R (joined x y) S (stops kind) M = stopped x y S M kind o (λ en m is.
        let s = o.met kind refl in
        among_nothing x.stops s.0 (map_nothing (λ (s : StopAt). past s.place) x.stops (append_nothing a.way (map (λ s. past s.place) x.stops) (root (passing a x) (behind k x) en m is)).1) s.1) in
        subst (λ (q : State). Outcome F R (joined x y) S e q) (sym next.1) (subst (λ (q : Ending). Outcome F R (joined x y) S q M) (sym next.0) n)

  pub sound_followed : (here rest : Surveying) (rh rr : Running) → IsSound F R here rh → IsSound F R rest rr → IsRooted rest → IsSound F R (followed_by here rest) (IsFollowed rh rr)
  sound_followed here rest rh rr sh sr root a k w S e S' h way c run = followed here rest rh rr sh sr root a k w S e S' h way c run.0 run.1 run.2 run.3
