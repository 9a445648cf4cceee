-- Each refusal of what is read of tables is told as a problem, and no other is.
use Rattle.std.proofs.Common.{◌≡◌, ◌==◌, ◌+◌, ◌⊎◌, ℕ, suc, Bool, true, false, true≢false, cond, nat_lt, List, [], ◌∷◌, ◌++◌, map, flat_map, Option, Some, None, option_to_list, length, ◌-◌, inl, inr, refl, sym, ap, subst, ◌∙◌, add-one, arith}
use Rattle.std.proofs.lemmas.Bool.Decides.{nat_tests}
use Rattle.acpi_space.specs.Laws.{Among}
use Rattle.acpi_space.proofs.Elements.{among_left, among_right, among_append}
use Rattle.acpi_outline.specs.Nodes.{NodeTrees}
use Rattle.acpi_outline.specs.View.{nodes_view}
use Rattle.acpi_conditions.specs.Entries.{Why, Refusal}
use Rattle.acpi_conditions.specs.Nodes.{places}
use Rattle.acpi_conditions.specs.Survey.{surveys, all_refused}
use Rattle.acpi_conditions.specs.Laws.{AreDistinct}
use Rattle.acpi_conditions.proofs.Strict.{flat_among, among_map}
use Rattle.acpi_conditions.proofs.Basics.{among_flat}
use Rattle.acpi_ranges.specs.Places.{last_or, last_at}
use Rattle.acpi_survey.specs.Nodes.{nodes_of}
use Rattle.acpi_ranges.specs.Ranges.{Range}
use Rattle.acpi_findings.specs.Problems.{ReasonParts, unread, cut, trailing, refused, ProblemParts, refused_problem, lost_problem, refused_in, lost_in, why_lost, range_problems, table_ranges, table_problem, front_problems, trailing_problems, table_problems}
use Rattle.acpi_ranges.specs.LostRanges.{bytes_from}
use Rattle.acpi_survey.specs.Reading.{Reading}
use Rattle.acpi_survey.specs.Predefined.{Predefined, with_object, with_objects, first_reading, predefined_root, predefined_scopes, predefined_objects, nothing_read}
use Rattle.acpi_survey.specs.Survey.{place_in, all_nodes}
use Rattle.acpi_pieces.specs.Tables.{code_read}
use Rattle.acpi_survey.specs.Surveys.{bytes_of, nodes_of_each}
use Rattle.acpi_ranges.specs.Index.{entered_in, refusals_in}
use Rattle.acpi_findings.specs.Findings.{problems_by, TellsRefusal, EachRefusalIsTold, OnlyRefusalsAreTold}
use Rattle.acpi_pieces.specs.declared.tables.TableContent.{TableContent}
use Rattle.acpi_pieces.specs.declared.tables.TableContent.TheVariants as judged
use Rattle.acpi_survey.specs.declared.machine_survey.SurveyedTable.{SurveyedTable}
use Rattle.acpi_survey.proofs.Growing.{places_are_distinct}
use Rattle.acpi_survey.proofs.TableWalks.{read_is_survey}
use Rattle.acpi_survey.proofs.Surveys.{first_at_start, are_read}
use Rattle.acpi_findings.proofs.Refusals.{has_among, has_distinct, places_of, place_among, pairs_of, tables_have, last_of}
use Rattle.acpi_findings.proofs.Standing.{Stands, places_stand}

-- ---- lists

-- ---- each refusal is told

-- nothing is refused before all tables
none_behind : (os : List Predefined) (s : Reading) → s.walk.refused ≡ [] → (with_objects s os).walk.refused ≡ []
unfolding with_object
none_behind [] s h = h
none_behind (o ∷ os) s h = none_behind os (with_object s o) h

none_at_first : first_reading.walk.refused ≡ []
unfolding with_object first_reading
none_at_first = none_behind predefined_objects (with_objects (with_object nothing_read predefined_root) predefined_scopes) (none_behind predefined_scopes (with_object nothing_read predefined_root) refl)

chosen_first : (f : Why → ProblemParts) (o : Option Why) (why : Why) → o ≡ Some why → Among (map f (option_to_list o)) (f why)
chosen_first f o why e = subst (λ o. Among (map f (option_to_list o)) (f why)) (sym e) (inl refl)

told_in : (s : Reading) (number : ℕ) (t : SurveyedTable) (r : Refusal) → Stands (place_in number 0) (table_ranges (entered_in s number) t.judged (nodes_view t.nodes)) r.place
    → refusals_in s r.place ≡ Some r.why
    → (p : ProblemParts) × Among (table_problems (entered_in s number) (refusals_in s) number t.bytes t.judged (nodes_view t.nodes)) p × TellsRefusal r p
told_in s number t r h last =
    let x : Range = h.0 in
    let rs : List Range = table_ranges (entered_in s number) t.judged (nodes_view t.nodes) in
    let code : List ℕ = code_read t.judged in
    let same : place_in number x.from ≡ r.place = omega (arith, h.2) in
    let f : Range → List ProblemParts = range_problems (refusals_in s) code number in
    let p : ProblemParts = refused_problem number x r.why in
    let here : Among (refused_in (refusals_in s) number x) p = chosen_first (refused_problem number x) (refusals_in s (place_in number x.from)) r.why (ap (refusals_in s) same ∙ last) in
    let inside : Among (flat_map f rs) p = flat_among f rs x p h.1 (among_left (refused_in (refusals_in s) number x) (lost_in code number x) p here) in (
      p,
      among_left (front_problems number t.bytes t.judged ++ flat_map f rs) (trailing_problems number t.bytes t.judged) p
          (among_right (front_problems number t.bytes t.judged) (flat_map f rs) p inside),
      record { reason = refl; place = (x.from, sym same, refl) },
    )

abbrev IsTold : Reading → (number : ℕ) → List SurveyedTable → Refusal → Type 0
IsTold s number ts r = (p : ProblemParts) × Among (problems_by (entered_in s) (refusals_in s) number ts) p × TellsRefusal r p

abbrev StandsIn : (number : ℕ) → List SurveyedTable → Refusal → Type 0
StandsIn number ts r = Among (flat_map places (all_nodes number (nodes_of_each ts))) r.place

told_either : (s : Reading) (number : ℕ) (t : SurveyedTable) (ts : List SurveyedTable) (r : Refusal) → refusals_in s r.place ≡ Some r.why
    → (StandsIn (number + 1) ts r → IsTold s (number + 1) ts r) → Among (places (nodes_of (place_in number 0) (nodes_view t.nodes))) r.place ⊎ StandsIn (suc number) ts r
    → IsTold s number (t ∷ ts) r
told_either s number t ts r last later (inl n) =
    let told = told_in s number t r (places_stand (place_in number 0) (entered_in s number) (length (code_read t.judged)) (nodes_view t.nodes) r.place n) last in (
      told.0,
      among_left (table_problems (entered_in s number) (refusals_in s) number t.bytes t.judged (nodes_view t.nodes)) (problems_by (entered_in s) (refusals_in s) (number + 1) ts) told.0
          told.1,
      told.2,
    )
told_either s number t ts r last later (inr n) =
    let told = later (subst (λ k. StandsIn k ts r) (sym (add-one number)) n) in (
      told.0,
      among_right (table_problems (entered_in s number) (refusals_in s) number t.bytes t.judged (nodes_view t.nodes)) (problems_by (entered_in s) (refusals_in s) (number + 1) ts) told.0
          told.1,
      told.2,
    )

each_told : (s : Reading) (number : ℕ) (ts : List SurveyedTable) (r : Refusal) → refusals_in s r.place ≡ Some r.why → StandsIn number ts r → IsTold s number ts r
each_told s number [] r last m = absurd m
each_told s number (t ∷ ts) r last m =
    told_either s number t ts r last (each_told s (number + 1) ts r last)
    (among_append (places (nodes_of (place_in number 0) (nodes_view t.nodes))) (flat_map places (all_nodes (suc number) (nodes_of_each ts))) r.place m)

pub each_refusal_is_told : EachRefusalIsTold
each_refusal_is_told depth ts last are r m =
    let nss : List NodeTrees = nodes_of_each ts in
    let read = are_read depth 0 first_reading last ts are in
    let k = first_reading.walk.known in
    let all : List Refusal = all_refused (surveys k (all_nodes 0 nss)) in
    let is : last.walk.refused ≡ all =
    (read_is_survey depth 0 first_reading last (bytes_of ts) nss first_at_start read).refused ∙ ap (λ rs. rs ++ all) none_at_first in
    let n : Among all r = subst (λ rs. Among rs r) is m in
    let has = tables_have (all_nodes 0 nss) k in
    let distinct : AreDistinct (places_of all) =
    has_distinct (flat_map places (all_nodes 0 nss)) (places_of all) has (places_are_distinct depth 0 first_reading last (bytes_of ts) nss read) in
    let at : last_at (pairs_of all) r.place ≡ Some r.why = last_of all r None distinct n in
    each_told last 0 ts r (ap (λ rs. last_at (pairs_of rs) r.place) is ∙ at)
    (has_among (flat_map places (all_nodes 0 nss)) (places_of all) r.place has (place_among all r n))

-- ---- only refusals are told

abbrev is_refused : ReasonParts → Bool
is_refused (refused why) = true
is_refused _ = false

abbrev why_in : Why → ReasonParts → Why
why_in other (refused why) = why
why_in other _ = other

not_told : (p q : ProblemParts) (why : Why) → is_refused q.reason ≡ false → q ≡ p → p.reason ≡ refused why → ⊥
not_told p q why other e is = true≢false (sym (ap is_refused is) ∙ sym (ap (λ (p : ProblemParts). is_refused p.reason) e) ∙ other)

not_front : (number : ℕ) (bytes : List ℕ) (j : TableContent) (p : ProblemParts) (why : Why) → Among (front_problems number bytes j) p → p.reason ≡ refused why → ⊥
not_front number bytes (judged.Unread w) p why (inl e) is = not_told p (table_problem number 0 (unread w) (Some (bytes_from 0 bytes))) why refl e is
not_front number bytes (judged.Unread w) p why (inr m) is = m
not_front number bytes (judged.Read code true has_bad_sum is_out_of_place behind) p why (inl e) is = not_told p (table_problem number 0 cut None) why refl e is
not_front number bytes (judged.Read code true has_bad_sum is_out_of_place behind) p why (inr m) is = m
not_front number bytes (judged.Read code false has_bad_sum is_out_of_place behind) p why m is = m

not_trailing : (number : ℕ) (bytes : List ℕ) (j : TableContent) (p : ProblemParts) (why : Why) → Among (trailing_problems number bytes j) p → p.reason ≡ refused why → ⊥
not_trailing number bytes (judged.Unread w) p why m is = m
not_trailing number bytes (judged.Read code is_cut has_bad_sum is_out_of_place behind) p why m is = by (nat_lt 0 behind) m
  where
    q : ProblemParts
    q = table_problem number (length bytes - behind) trailing (Some (bytes_from (length bytes - behind) bytes))

    by : (b : Bool) → Among (cond b (q ∷ []) []) p → ⊥
    by true (inl e) = not_told p q why refl e is
    by true (inr m) = m
    by false m = m

-- the value at a place is one of those that stand there
last_found : (rs : List Refusal) (q : ℕ) (o : Option Why) (why : Why) → last_or o (pairs_of rs) q ≡ Some why
    → (o ≡ Some why) ⊎ ((r : Refusal) × Among rs r × (r.place ≡ q) × (r.why ≡ why))
last_found [] q o why h = inl h
last_found (r ∷ rs) q o why h = by (r.place == q) refl (last_found rs q (cond (r.place == q) (Some r.why) o) why h)
  where
    some : Why → Option Why → Why
    some other None = other
    some other (Some w) = w

    by : (b : Bool) → (r.place == q) ≡ b → (cond b (Some r.why) o ≡ Some why) ⊎ ((r : Refusal) × Among rs r × (r.place ≡ q) × (r.why ≡ why))
        → (o ≡ Some why) ⊎ ((x : Refusal) × Among (r ∷ rs) x × (x.place ≡ q) × (x.why ≡ why))
    by b at (inr m) = inr (m.0, inr m.1, m.2, m.3)
    by true at (inl e) = let same : r.place ≡ q = grind (arith, nat_tests) in inr (r, inl refl, same, ap (some why) e)
    by false at (inl e) = inl e

abbrev IsToldOf : Reading → ProblemParts → Why → Type 0
IsToldOf s p why = (r : Refusal) × Among s.walk.refused r × (r.why ≡ why) × TellsRefusal r p

only_in_range : (s : Reading) (code : List ℕ) (number : ℕ) (x : Range) (p : ProblemParts) (why : Why) → Among (range_problems (refusals_in s) code number x) p → p.reason ≡ refused why → IsToldOf s p why
only_in_range s code number x p why m is = by (among_append (refused_in (refusals_in s) number x) (lost_in code number x) p m)
  where
    at : ℕ
    at = place_in number x.from

    chosen : (o : Option Why) → refusals_in s at ≡ o → Among (map (refused_problem number x) (option_to_list o)) p → IsToldOf s p why
    chosen None here m = absurd m
    chosen (Some w) here (inr m) = absurd m
    chosen (Some w) here (inl e) = from (last_found s.walk.refused at None w here)
      where
        w_is : w ≡ why
        w_is = ap (λ (p : ProblemParts). why_in why p.reason) e ∙ ap (why_in why) is

        from : (None ≡ Some w) ⊎ ((r : Refusal) × Among s.walk.refused r × (r.place ≡ at) × (r.why ≡ w)) → IsToldOf s p why
        from (inl none) = let f : ⊥ = cc in absurd f
        from (inr f) = (
          f.0,
          f.1,
          f.3 ∙ w_is,
          subst (λ (p : ProblemParts). TellsRefusal f.0 p) e (record { reason = ap refused (sym f.3); place = (x.from, f.2, refl) }),
        )

    by : Among (refused_in (refusals_in s) number x) p ⊎ Among (lost_in code number x) p → IsToldOf s p why
    by (inl n) = chosen (refusals_in s at) refl n
    by (inr n) = let w = among_map (lost_problem code number x) (why_lost x.part) p n in absurd (not_told p (lost_problem code number x w.0) why refl w.1 is)

only_in_table : (s : Reading) (number : ℕ) (t : SurveyedTable) (p : ProblemParts) (why : Why)
    → Among (table_problems (entered_in s number) (refusals_in s) number t.bytes t.judged (nodes_view t.nodes)) p → p.reason ≡ refused why → IsToldOf s p why
only_in_table s number t p why m is = by (among_append (front ++ inner) behind p m)
  where
    f : Range → List ProblemParts
    f = range_problems (refusals_in s) (code_read t.judged) number

    front : List ProblemParts
    front = front_problems number t.bytes t.judged

    inner : List ProblemParts
    inner = flat_map f (table_ranges (entered_in s number) t.judged (nodes_view t.nodes))

    behind : List ProblemParts
    behind = trailing_problems number t.bytes t.judged

    first : Among front p ⊎ Among inner p → IsToldOf s p why
    first (inl n) = absurd (not_front number t.bytes t.judged p why n is)
    first (inr n) =
        let x = among_flat f (table_ranges (entered_in s number) t.judged (nodes_view t.nodes)) p n in only_in_range s (code_read t.judged) number x.0 p why x.2 is

    by : Among (front ++ inner) p ⊎ Among behind p → IsToldOf s p why
    by (inl n) = first (among_append front inner p n)
    by (inr n) = absurd (not_trailing number t.bytes t.judged p why n is)

either_told : {A B C : Type 0} → (A → C) → (B → C) → A ⊎ B → C
either_told f g (inl x) = f x
either_told f g (inr y) = g y

only_told : (s : Reading) (number : ℕ) (ts : List SurveyedTable) (p : ProblemParts) (why : Why) → Among (problems_by (entered_in s) (refusals_in s) number ts) p → p.reason ≡ refused why → IsToldOf s p why
only_told s number [] p why m is = absurd m
only_told s number (t ∷ ts) p why m is =
    either_told (λ n. only_in_table s number t p why n is) (λ n. only_told s (number + 1) ts p why n is)
    (among_append (table_problems (entered_in s number) (refusals_in s) number t.bytes t.judged (nodes_view t.nodes)) (problems_by (entered_in s) (refusals_in s) (number + 1) ts) p m)

pub only_refusals_are_told : OnlyRefusalsAreTold
only_refusals_are_told s ts p why m is = only_told s 0 ts p why m is
