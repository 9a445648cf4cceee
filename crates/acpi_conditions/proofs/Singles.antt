-- Where no two nodes stand at one place, no two entries do, and no refusal stands at the place of an entry.
use Rattle.std.proofs.Common.{◌≡◌, List, [], ◌∷◌, ◌++◌, ◌⊎◌, inl, inr, sym, ap, subst, ◌∙◌, Result, Ok, Err}
use Rattle.std.specs.List.{flat_map}
use Rattle.acpi_name.specs.Names.{NameParts}
use Rattle.acpi_space.specs.Laws.{Among}
use Rattle.acpi_space.proofs.Elements.{among_left, among_right, among_append}
use Rattle.acpi_conditions.specs.Nodes.{Place, Term, Nodes, no_nodes, declares, opens, branch, loop, stop, places}
use Rattle.acpi_conditions.specs.Entries.{Path, then_branch, else_branch, in_round, Entry, Why, Refusal}
use Rattle.acpi_conditions.specs.Known.{Known, declared_at, opened_at}
use Rattle.acpi_conditions.specs.Survey.{Around, turning, Surveying, behind, passing, followed_by, entry_at, inside_of, known_inside, declaring_as, declaring, inside_scope, known_in_scope, opening_as, opening, branching, known_in_loop, looping, stopping, behind_table, table_survey, surveys, all_entries, all_refused, at_root, survey}
use Rattle.acpi_conditions.specs.Laws.{AreDistinct}
use Rattle.acpi_conditions.proofs.Reached.{distinct_left, distinct_right, apart}

-- entries and refusals stand at these places
pub record StandAt (ps : List Place) (es : List Entry) (rs : List Refusal) : Type 0 where
  pub entries : (e : Entry) → Among es e → Among ps e.term.place
  pub refused : (r : Refusal) → Among rs r → Among ps r.place

-- at each place one of them alone
pub record AreSingle (es : List Entry) (rs : List Refusal) : Type 0 where
  pub one : (e f : Entry) → Among es e → Among es f → e.term.place ≡ f.term.place → e ≡ f
  pub none : (e : Entry) (r : Refusal) → Among es e → Among rs r → e.term.place ≡ r.place → ⊥

pub record Once (ps : List Place) (es : List Entry) (rs : List Refusal) : Type 0 where
  pub at : StandAt ps es rs
  pub single : AreDistinct ps → AreSingle es rs

module _ (ps qs : List Place) (es fs : List Entry) (rs ss : List Refusal) (x : Once ps es rs) (y : Once qs fs ss) where
  both_at : StandAt (ps ++ qs) (es ++ fs) (rs ++ ss)
  both_at = record { entries = λ e m. entry e (among_append es fs e m); refused = λ r m. refusal r (among_append rs ss r m) }
    where
      entry : (e : Entry) → Among es e ⊎ Among fs e → Among (ps ++ qs) e.term.place
      entry e (inl m) = among_left ps qs e.term.place (x.at.entries e m)
      entry e (inr m) = among_right ps qs e.term.place (y.at.entries e m)

      refusal : (r : Refusal) → Among rs r ⊎ Among ss r → Among (ps ++ qs) r.place
      refusal r (inl m) = among_left ps qs r.place (x.at.refused r m)
      refusal r (inr m) = among_right ps qs r.place (y.at.refused r m)

  module _ (d : AreDistinct (ps ++ qs)) where
    -- none of the one stands at the place of one of the other
    meet : {A : Type 0} (p q : Place) → Among ps p → Among qs q → p ≡ q → A
    meet p q m n same = absurd (apart ps qs d q (subst (λ (r : Place). Among ps r) same m) n)

    both_one : (e f : Entry) → Among es e ⊎ Among fs e → Among es f ⊎ Among fs f → e.term.place ≡ f.term.place → e ≡ f
    both_one e f (inl m) (inl n) same = (x.single (distinct_left ps qs d)).one e f m n same
    both_one e f (inr m) (inr n) same = (y.single (distinct_right ps qs d)).one e f m n same
    both_one e f (inl m) (inr n) same = meet e.term.place f.term.place (x.at.entries e m) (y.at.entries f n) same
    both_one e f (inr m) (inl n) same = meet f.term.place e.term.place (x.at.entries f n) (y.at.entries e m) (sym same)

    both_none : (e : Entry) (r : Refusal) → Among es e ⊎ Among fs e → Among rs r ⊎ Among ss r → e.term.place ≡ r.place → ⊥
    both_none e r (inl m) (inl n) same = (x.single (distinct_left ps qs d)).none e r m n same
    both_none e r (inr m) (inr n) same = (y.single (distinct_right ps qs d)).none e r m n same
    both_none e r (inl m) (inr n) same = meet e.term.place r.place (x.at.entries e m) (y.at.refused r n) same
    both_none e r (inr m) (inl n) same = meet r.place e.term.place (x.at.refused r n) (y.at.entries e m) (sym same)

    both_single : AreSingle (es ++ fs) (rs ++ ss)
    both_single = record {
      one = λ e f m n. both_one e f (among_append es fs e m) (among_append es fs f n);
      none = λ e r m n. both_none e r (among_append es fs e m) (among_append rs ss r n);
    }

  joined_once : Once (ps ++ qs) (es ++ fs) (rs ++ ss)
  joined_once = record { at = both_at; single = both_single }

nothing_once : (ps : List Place) → Once ps [] []
nothing_once ps = record { at = record { entries = λ e m. absurd m; refused = λ r m. absurd m }; single = λ d. record { one = λ e f m n. absurd m; none = λ e r m n. absurd m } }

entry_once : (e : Entry) → Once (e.term.place ∷ []) (e ∷ []) []
entry_once e = record {
  at = record { entries = λ f m. entry f m; refused = λ r m. absurd m };
  single = λ d. record { one = λ f g m n same. one f g m n; none = λ f r m n. absurd n };
}
  where
    entry : (f : Entry) → Among (e ∷ []) f → Among (e.term.place ∷ []) f.term.place
    entry f (inl same) = inl (ap (λ (x : Entry). x.term.place) same)
    entry f (inr m) = absurd m

    one : (f g : Entry) → Among (e ∷ []) f → Among (e ∷ []) g → f ≡ g
    one f g (inl m) (inl n) = sym m ∙ n
    one f g (inr m) n = absurd m
    one f g m (inr n) = absurd n

refusal_once : (place : Place) (why : Why) (qs : List Place) → Once (place ∷ qs) [] (record { place = place; why = why } ∷ [])
refusal_once place why qs = record {
  at = record { entries = λ e m. absurd m; refused = λ r m. refusal r m };
  single = λ d. record { one = λ e f m n. absurd m; none = λ e r m n. absurd m };
}
  where
    refusal : (r : Refusal) → Among (record { place = place; why = why } ∷ []) r → Among (place ∷ qs) r.place
    refusal r (inl same) = inl (ap (λ (r : Refusal). r.place) same)
    refusal r (inr m) = absurd m

-- ---- nodes

abbrev pub IsOnce : List Place → Surveying → Type 0
IsOnce ps x = (a : Around) (k : Known) → Once ps (x a k).entries (x a k).refused

once_followed : (ps qs : List Place) (here rest : Surveying) → IsOnce ps here → IsOnce qs rest → IsOnce (ps ++ qs) (followed_by here rest)
once_followed ps qs here rest oh or a k =
    joined_once ps qs (here a k).entries (rest (passing a (here a k)) (behind k (here a k))).entries (here a k).refused (rest (passing a (here a k)) (behind k (here a k))).refused (oh a k)
    (or (passing a (here a k)) (behind k (here a k)))

once_inside : (place : Place) (qs : List Place) (es : List Entry) (rs : List Refusal) → Once qs es rs → Once (place ∷ qs) es rs
once_inside place qs es rs o = joined_once (place ∷ []) qs [] es [] rs (nothing_once (place ∷ [])) o

once_declaring : (t : Term) (qs : List Place) (inside : Surveying) → IsOnce qs inside → IsOnce (t.place ∷ qs) (declaring t inside)
once_declaring t qs inside oi a k = by (declared_at k a.scope t.name)
  where
    by : (r : Result Path Why) → Once (t.place ∷ qs) (declaring_as t inside a k r).entries (declaring_as t inside a k r).refused
    by (Err why) = refusal_once t.place why qs
    by (Ok p) =
        let e : Entry = entry_at a k t p in
        joined_once (t.place ∷ []) qs (e ∷ []) (inside (inside_of e) (known_inside k e)).entries [] (inside (inside_of e) (known_inside k e)).refused (entry_once e) (oi (inside_of e) (known_inside k e))

once_opening : (place : Place) (n : NameParts) (qs : List Place) (inside : Surveying) → IsOnce qs inside → IsOnce (place ∷ qs) (opening place n inside)
once_opening place n qs inside oi a k = by (opened_at k a.scope n)
  where
    by : (r : Result Path Why) → Once (place ∷ qs) (opening_as place inside a k r).entries (opening_as place inside a k r).refused
    by (Err why) = refusal_once place why qs
    by (Ok p) =
        once_inside place qs (inside (inside_scope place a k p) (known_in_scope k p)).entries (inside (inside_scope place a k p) (known_in_scope k p)).refused (oi (inside_scope place a k p) (known_in_scope k p))

once_branching : (place : Place) (fs os : List Place) (first other : Surveying) → IsOnce fs first → IsOnce os other → IsOnce (place ∷ (fs ++ os)) (branching place first other)
once_branching place fs os first other of oo a k =
    let x = first (turning a (then_branch place)) k in
    let y = other (turning a (else_branch place)) k in
    once_inside place (fs ++ os) (x.entries ++ y.entries) (x.refused ++ y.refused)
    (joined_once fs os x.entries y.entries x.refused y.refused (of (turning a (then_branch place)) k) (oo (turning a (else_branch place)) k))

once_looping : (place : Place) (bs : List Place) (body : Surveying) → IsOnce bs body → IsOnce (place ∷ bs) (looping place body)
once_looping place bs body ob a k =
    let x = body (turning a (in_round place)) (known_in_loop k) in
    once_inside place bs x.entries x.refused (ob (turning a (in_round place)) (known_in_loop k))

once_nodes : (ns : Nodes) → IsOnce (places ns) (survey ns)
once_nodes no_nodes = λ a k. nothing_once []
once_nodes (declares t inside rest) =
    once_followed (t.place ∷ places inside) (places rest) (declaring t (survey inside)) (survey rest) (once_declaring t (places inside) (survey inside) (once_nodes inside)) (once_nodes rest)
once_nodes (opens place n inside rest) =
    once_followed (place ∷ places inside) (places rest) (opening place n (survey inside)) (survey rest) (once_opening place n (places inside) (survey inside) (once_nodes inside)) (once_nodes rest)
once_nodes (branch place first other rest) =
    once_followed (place ∷ (places first ++ places other)) (places rest) (branching place (survey first) (survey other)) (survey rest)
    (once_branching place (places first) (places other) (survey first) (survey other) (once_nodes first) (once_nodes other)) (once_nodes rest)
once_nodes (loop place body rest) =
    once_followed (place ∷ places body) (places rest) (looping place (survey body)) (survey rest) (once_looping place (places body) (survey body) (once_nodes body)) (once_nodes rest)
once_nodes (stop place kind rest) = once_followed (place ∷ []) (places rest) (stopping place kind) (survey rest) (λ a k. nothing_once (place ∷ [])) (once_nodes rest)

pub once_tables : (k : Known) (ts : List Nodes) → Once (flat_map places ts) (all_entries (surveys k ts)) (all_refused (surveys k ts))
once_tables k [] = nothing_once []
once_tables k (t ∷ ts) =
    let x = table_survey k t in
    let more = surveys (behind_table k x) ts in
    joined_once (places t) (flat_map places ts) x.entries (all_entries more) x.refused (all_refused more) (once_nodes t at_root k) (once_tables (behind_table k x) ts)
