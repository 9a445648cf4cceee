-- A count that is sure holds in each run.
use Rattle.std.proofs.Common.{◌≡◌, ◌⊎◌, ◌||◌, ◌&&◌, ◌+◌, ℕ, suc, Bool, true, false, true≢false, not, cond, List, [], ◌∷◌, ◌++◌, find, is_some, slice_get, inl, inr, Option, Some, None, refl, sym, ap, subst, ◌∙◌, arith}
use Rattle.std.specs.Prelude.{IsTrue, slice_index_or, nat_eq}
use Rattle.std.specs.List.{AllByRecursion, filter, flat_map, list_all, list_any}
use Rattle.std.specs.FinMap as finite
use Rattle.std.proofs.lemmas.Bool.{eqb-true, or_right, and_from}
use Rattle.acpi_name.specs.Names.{NameParts}
use Rattle.acpi_space.specs.Lookups.{Lookup, is_same_path, is_defined_in}
use Rattle.acpi_space.specs.Search.{answer, tries}
use Rattle.acpi_space.specs.Spaces.{PathMap, is_defined}
use Rattle.acpi_space.specs.Laws.{Among}
use Rattle.acpi_space.proofs.Filters.{among_filter}
use Rattle.acpi_space.proofs.Elements.{among_left, among_right, among_append, one_some, some_is}
use Rattle.acpi_body.specs.Arguments.{Locals}
use Rattle.acpi_outline.specs.Nodes.{NodeTrees}
use Rattle.acpi_conditions.specs.Nodes.{Term}
use Rattle.acpi_conditions.specs.Entries.{Path, Turn, Namespace, Entry, HasNoCondition}
use Rattle.acpi_conditions.specs.Known.{Certain, Known, is_certain, is_possible, up_to_certain, candidates, IsTrueOf}
use Rattle.acpi_conditions.specs.Links.{are_exclusive, is_round, seen_from}
use Rattle.acpi_conditions.specs.Views.{nothing_known, known_with, seen_by}
use Rattle.acpi_conditions.specs.Met.{may_be_met, numbers_beyond}
use Rattle.acpi_conditions.specs.Survey.{surveys, all_entries}
use Rattle.acpi_conditions.specs.Laws.{AnswerAlike}
use Rattle.acpi_conditions.proofs.Basics.{some_any, any_some, same_path, path_itself, and_left, and_right}
use Rattle.acpi_conditions.proofs.SeenIsTrue.{seen_is_true}
use Rattle.acpi_conditions.proofs.AmongAll.{seen_among_all}
use Rattle.acpi_conditions.proofs.Strict.{flat_among}
use Rattle.acpi_survey.specs.Counts.{is_count, agreed, counts_numbered, count_of}
use Rattle.acpi_survey.specs.Bodies.{known_behind, counts_behind, entry_count}
use Rattle.acpi_survey.specs.Reading.{Reading}
use Rattle.acpi_survey.specs.Predefined.{first_reading, with_object}
use Rattle.acpi_survey.specs.Survey.{all_nodes}
use Rattle.acpi_survey.specs.Laws.{HasCountAt, SureCountsHold}
use Rattle.acpi_survey.proofs.LocalPaths.{certain_with_locals}
use Rattle.acpi_survey.proofs.Growing.{places_are_distinct}
use Rattle.acpi_survey.proofs.Surveys.{first_at_start}
use Rattle.acpi_survey.proofs.TableWalks.{read_is_survey}

-- ---- counts that agree

all_of : (k : ℕ) (cs : List (Option ℕ)) → list_all (is_count k) cs ≡ true → (c : Option ℕ) → Among cs c → c ≡ Some k
all_of k [] h c m = absurd m
all_of k (None ∷ cs) h c m = absurd (true≢false (sym h))
all_of k (Some j ∷ cs) h c (inl same) = sym same ∙ ap Some (sym (eqb-true k j (and_left (nat_eq k j) (list_all (is_count k) cs) h)))
all_of k (Some j ∷ cs) h c (inr more) = all_of k cs (and_right (nat_eq k j) (list_all (is_count k) cs) h) c more

each_same : (k n : ℕ) (cs : List (Option ℕ)) → list_all (is_count k) cs ≡ true → Some k ≡ Some n → (c : Option ℕ) → Among (Some k ∷ cs) c → c ≡ Some n
each_same k n cs h is c (inl same) = sym same ∙ is
each_same k n cs h is c (inr more) = all_of k cs h c more ∙ is

agreed_each : (cs : List (Option ℕ)) (n : ℕ) → agreed cs ≡ Some n → (c : Option ℕ) → Among cs c → c ≡ Some n
agreed_each [] n e c m = absurd m
agreed_each (None ∷ cs) n e c m = cc
agreed_each (Some k ∷ cs) n e c m = by (list_all (is_count k) cs) refl e
  where
    by : (b : Bool) → list_all (is_count k) cs ≡ b → cond b (Some k) None ≡ Some n → c ≡ Some n
    by true all is = each_same k n cs all is c m
    by false all is = cc

count_each : (externals : Lookup ℕ) (s : Path) (counts : Path → List (Option ℕ)) (name : NameParts) (ps : List Path) (n : ℕ) → count_of externals s counts name ps ≡ Some n
    → (p : Path) → Among ps p → (c : Option ℕ) → Among (counts p) c → c ≡ Some n
count_each externals s counts name [] n e p m c is = absurd m
count_each externals s counts name (q ∷ qs) n e p m c is = agreed_each (flat_map counts (q ∷ qs)) n e c (flat_among counts (q ∷ qs) p c m is)

-- ---- the numbers of the entries at a path

more_numbers : (b : Bool) (n : ℕ) (ns : List ℕ) (i : ℕ) → Among ns i → Among (cond b (n ∷ ns) ns) i
more_numbers true n ns i m = inr m
more_numbers false n ns i m = m

numbered : (w : List Turn) (p : Path) (n : ℕ) (es : List Entry) (f : Entry) → Among es f → f.path ≡ p → may_be_met w f ≡ true → (i : ℕ) × (slice_get es i ≡ Some f) × Among (numbers_beyond w p n es) (n + i)
numbered w p n [] f m is met = absurd m
numbered w p n (g ∷ es) f (inl same) is met =
    let here : (is_same_path g.path p && may_be_met w g) ≡ true = and_from (is_same_path g.path p) (may_be_met w g) (path_itself g.path p (ap (λ (x : Entry). x.path) same ∙ is)) (ap (may_be_met w) same ∙ met) in
    let number : n ≡ n + 0 = omega arith in
    (0, ap Some same, subst (λ b. Among (cond b (n ∷ numbers_beyond w p (suc n) es) (numbers_beyond w p (suc n) es)) (n + 0)) (sym here) (inl number))
numbered w p n (g ∷ es) f (inr m) is met =
    let r = numbered w p (suc n) es f m is met in
    let number : suc n + r.0 ≡ n + suc r.0 = omega arith in
    (suc r.0, r.1, more_numbers (is_same_path g.path p && may_be_met w g) n (numbers_beyond w p (suc n) es) (n + suc r.0) (subst (Among (numbers_beyond w p (suc n) es)) number r.2))

numbered_at : (w : List Turn) (p : Path) (es : List Entry) (f : Entry) → Among es f → f.path ≡ p → may_be_met w f ≡ true → (i : ℕ) × (slice_get es i ≡ Some f) × Among (numbers_beyond w p 0 es) i
numbered_at w p es f m is met =
    let r = numbered w p 0 es f m is met in
    let same : 0 + r.0 ≡ r.0 = omega arith in
    (r.0, r.1, subst (Among (numbers_beyond w p 0 es)) same r.2)

map_member : (cs : List (Option ℕ)) (ns : List ℕ) (i : ℕ) → Among ns i → Among (counts_numbered cs ns) (slice_index_or cs i None)
map_member cs [] i m = absurd m
map_member cs (n ∷ ns) i (inl same) = inl (ap (λ k. slice_index_or cs k None) same)
map_member cs (n ∷ ns) i (inr m) = inr (map_member cs ns i m)

-- ---- the search over what is known

pub found_passes : (test : Path → Bool) (ps : List Path) (p : Path) → find test ps ≡ Some p → test p ≡ true
found_passes test [] p e = cc
found_passes test (q ∷ qs) p e = by (test q) refl (found_passes test qs p)
  where
    by : (b : Bool) → test q ≡ b → (find test qs ≡ Some p → test p ≡ true) → test p ≡ true
    by true is rest = ap test (sym (one_some q p (sym (ap (λ b. cond b (Some q) (find test qs)) is) ∙ e))) ∙ is
    by false is rest = rest (sym (ap (λ b. cond b (Some q) (find test qs)) is) ∙ e)

module _ (k : Known) (there : Path → Bool) (certain : (p : Path) → is_certain k p ≡ true → there p ≡ true) (possible : (p : Path) → there p ≡ true → (is_certain k p ≡ true) ⊎ (is_possible k p ≡ true)) where
  first_among : (q : Path) (ps : List Path) → (is_certain k q ≡ true) ⊎ (is_possible k q ≡ true) → Among (up_to_certain k (q ∷ ps)) q
  first_among q ps known = by (is_certain k q) (is_possible k q) known
    where
      by : (c d : Bool) → (c ≡ true) ⊎ (d ≡ true) → Among (cond c (q ∷ []) (cond d (q ∷ up_to_certain k ps) (up_to_certain k ps))) q
      by true d h = inl refl
      by false true h = inl refl
      by false false (inl h) = absurd (true≢false (sym h))
      by false false (inr h) = absurd (true≢false (sym h))

  later_among : (q : Path) (ps : List Path) (p : Path) → there q ≡ false → Among (up_to_certain k ps) p → Among (up_to_certain k (q ∷ ps)) p
  later_among q ps p free m = by (is_certain k q) refl
    where
      by_possible : (d : Bool) → Among (cond d (q ∷ up_to_certain k ps) (up_to_certain k ps)) p
      by_possible true = inr m
      by_possible false = m

      by : (c : Bool) → is_certain k q ≡ c → Among (cond c (q ∷ []) (cond (is_possible k q) (q ∷ up_to_certain k ps) (up_to_certain k ps))) p
      by true is = absurd (true≢false (sym (certain q is) ∙ free))
      by false is = by_possible (is_possible k q)

  found_among : (ps : List Path) (p : Path) → find there ps ≡ Some p → Among (up_to_certain k ps) p
  found_among [] p e = cc
  found_among (q ∷ ps) p e = by (there q) refl (found_among ps p)
    where
      by : (b : Bool) → there q ≡ b → (find there ps ≡ Some p → Among (up_to_certain k ps) p) → Among (up_to_certain k (q ∷ ps)) p
      by true is rest =
          let same : q ≡ p = one_some q p (sym (ap (λ b. cond b (Some q) (find there ps)) is) ∙ e) in
          subst (Among (up_to_certain k (q ∷ ps))) same (first_among q ps (possible q is))
      by false is rest = later_among q ps p is (rest (sym (ap (λ b. cond b (Some q) (find there ps)) is) ∙ e))

-- ---- what is there before all tables

pub first_unconditional : AllByRecursion HasNoCondition first_reading.walk.entries
unfolding first_reading with_object
first_unconditional = ((refl, refl), ((refl, refl), ((refl, refl), ((refl, refl), ((refl, refl), ((refl, refl), ((refl, refl), ((refl, refl), ((refl, refl), ((refl, refl), tt))))))))))

first_alike : (es : List Entry) (e : Entry) → AnswerAlike (seen_from first_reading.walk.known es e) (seen_from nothing_known (first_reading.walk.entries ++ es) e)
unfolding first_reading with_object
first_alike es e = seen_among_all nothing_known first_reading.walk.entries es e first_unconditional

first_entries : first_reading.walk.known.entries ≡ first_reading.walk.entries
unfolding first_reading with_object
first_entries = refl

pub no_loop_first : not first_reading.walk.known.in_loop ≡ true
unfolding first_reading with_object
no_loop_first = refl

unconditional_met : (fs : List Entry) → AllByRecursion HasNoCondition fs → (f : Entry) (w : List Turn) → Among fs f → may_be_met w f ≡ true
unconditional_met [] h f w m = absurd m
unconditional_met (g ∷ fs) h f w (inl same) = ap (λ (x : Entry). not (are_exclusive x.way w)) (sym same) ∙ ap (λ (v : List Turn). not (are_exclusive v w)) h.0.0
unconditional_met (g ∷ fs) h f w (inr m) = unconditional_met fs h.1 f w m

-- ---- a name in the body of an entry

module _ (es : List Entry) (counts : List (Option ℕ)) (objects : Namespace) (e : Entry) (true_there : IsTrueOf objects (seen_from first_reading.walk.known es e)) (locals : Locals) where
  abbrev all : List Entry
  all = first_reading.walk.entries ++ es

  abbrev seen : Known
  seen = seen_from nothing_known all e

  abbrev there : Path → Bool
  there q = is_defined locals q || is_defined_in objects q

  abbrev at_path : Path → List (Option ℕ)
  at_path q = counts_numbered counts (numbers_beyond e.way q 0 all)

  certain_defined : (q : Path) → is_certain seen q ≡ true → is_defined_in objects q ≡ true
  certain_defined q is =
      let c = any_some (λ (c : Certain). is_same_path c.path q) (seen_from first_reading.walk.known es e).certain ((first_alike es e).certain q ∙ is) in
      let t = true_there.certain c.0 c.1 in
      ap (λ x. is_defined_in objects x) (sym (same_path c.0.path q c.2)) ∙ ap is_some t.1

  defined_possible : (q : Path) → is_defined_in objects q ≡ true → is_possible seen q ≡ true
  defined_possible q is =
      let t = some_is (objects q) is in
      let f = true_there.possible no_loop_first q t.0 t.1 in
      sym ((first_alike es e).possible q)
      ∙ or_right first_reading.walk.known.in_loop (list_any (λ (x : Entry). is_same_path x.path q) (seen_from first_reading.walk.known es e).entries)
      (some_any (λ (x : Entry). is_same_path x.path q) (seen_from first_reading.walk.known es e).entries f.0 f.1 (path_itself f.0.path q f.2))

  among_candidates : (name : NameParts) (p : Path) → answer there e.path name ≡ Some p → Among (candidates (known_behind locals seen) e.path name) p
  among_candidates name p found = found_among (known_behind locals seen) there certain possible (tries e.path name) p found
    where
      certain : (q : Path) → is_certain (known_behind locals seen) q ≡ true → there q ≡ true
      certain q is = by (is_defined locals q) (sym (certain_with_locals locals seen q) ∙ is)
        where
          by : (b : Bool) → (b || is_certain seen q) ≡ true → (b || is_defined_in objects q) ≡ true
          by true h = refl
          by false h = certain_defined q h

      possible : (q : Path) → there q ≡ true → (is_certain (known_behind locals seen) q ≡ true) ⊎ (is_possible (known_behind locals seen) q ≡ true)
      possible q is = by (is_defined locals q) refl is
        where
          by : (b : Bool) → is_defined locals q ≡ b → (b || is_defined_in objects q) ≡ true → (is_certain (known_behind locals seen) q ≡ true) ⊎ (is_possible (known_behind locals seen) q ≡ true)
          by true at h = inl (certain_with_locals locals seen q ∙ ap (λ b. b || is_certain seen q) at)
          by false at h = inr (defined_possible q h)

  met_entry : (f : Entry) → Among (seen_from first_reading.walk.known es e).entries f → Among all f × (may_be_met e.way f ≡ true)
  met_entry f m = by (among_append first_reading.walk.known.entries (filter (λ (x : Entry). not (are_exclusive x.way e.way)) es) f m)
    where
      by : Among first_reading.walk.known.entries f ⊎ Among (filter (λ (x : Entry). not (are_exclusive x.way e.way)) es) f → Among all f × (may_be_met e.way f ≡ true)
      by (inl before) =
          let first : Among first_reading.walk.entries f = subst (λ (fs : List Entry). Among fs f) first_entries before in
          (among_left first_reading.walk.entries es f first, unconditional_met first_reading.walk.entries first_unconditional f e.way first)
      by (inr after) = let r = (among_filter (λ (x : Entry). not (are_exclusive x.way e.way)) es f).0 after in (among_right first_reading.walk.entries es f r.0, r.1)

  name_holds : (last : Reading) → last.walk.entries ≡ all → last.counts ≡ counts → (expected : PathMap ℕ) (name : NameParts) (n : ℕ)
      → count_of (finite.get expected) e.path (counts_behind locals at_path) name (candidates (known_behind locals seen) e.path name) ≡ Some n
      → (p : Path) → answer there e.path name ≡ Some p → (IsTrue (is_defined locals p) × (n ≡ 0)) ⊎ HasCountAt objects last p n
  name_holds last are counted expected name n sure p found = by (is_defined locals p) refl
    where
      each : (c : Option ℕ) → Among (counts_behind locals at_path p) c → c ≡ Some n
      each c m = count_each (finite.get expected) e.path (counts_behind locals at_path) name (candidates (known_behind locals seen) e.path name) n sure p (among_candidates name p found) c m

      by : (b : Bool) → is_defined locals p ≡ b → (IsTrue (is_defined locals p) × (n ≡ 0)) ⊎ HasCountAt objects last p n
      by true is =
          let zero : Some 0 ≡ Some n = each (Some 0) (subst (λ b. Among (cond b (Some 0 ∷ []) (at_path p)) (Some 0)) (sym is) (inl refl)) in
          inl (is, sym (one_some 0 n zero))
      by false is =
          let defined : is_defined_in objects p ≡ true = sym (ap (λ b. b || is_defined_in objects p) is) ∙ found_passes there (tries e.path name) p found in
          let t = some_is (objects p) defined in
          let f = true_there.possible no_loop_first p t.0 t.1 in
          let met = met_entry f.0 f.1 in
          let number = numbered_at e.way p all f.0 met.0 f.2 met.1 in
          let count : slice_index_or counts number.0 None ≡ Some n =
          each (slice_index_or counts number.0 None) (subst (λ b. Among (cond b (Some 0 ∷ []) (at_path p)) (slice_index_or counts number.0 None)) (sym is) (map_member counts (numbers_beyond e.way p 0 all) number.0 number.2)) in
          inr (record {
            number = number.0;
            entry = f.0;
            is_numbered = ap (λ (xs : List Entry). slice_get xs number.0) are ∙ number.1;
            path = f.2;
            declared = t.1 ∙ ap Some (sym f.3);
            count = ap (λ (cs : List (Option ℕ)). slice_index_or cs number.0 None) counted ∙ count;
          })

pub sure_counts_hold : SureCountsHold
sure_counts_hold depth tables nss last r S S' run e m outside reached expected locals name n sure p found =
    let es : List Entry = all_entries (surveys first_reading.walk.known (all_nodes 0 nss)) in
    let are : last.walk.entries ≡ first_reading.walk.entries ++ es = (read_is_survey depth 0 first_reading last tables nss first_at_start r).entries in
    let true_there : IsTrueOf S'.objects (seen_from first_reading.walk.known es e) =
    seen_is_true first_reading.walk.known (all_nodes 0 nss) S S' run (places_are_distinct depth 0 first_reading last tables nss r) e m outside reached in
    name_holds es last.counts S'.objects e true_there locals last are refl expected name n
    (subst (λ (xs : List Entry). entry_count xs last.counts expected e locals name ≡ Some n) are sure) p found
