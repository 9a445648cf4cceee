-- Searches, counts and bodies that a larger namespace leaves as they were.
use Rattle.std.proofs.Common.{◌≡◌, ◌≢◌, ℕ, Bool, true, false, cond, ◌||◌, List, [], ◌∷◌, find, is_some, Option, Some, None, IsTrue, inl, inr, refl, sym, ap, subst, ◌∙◌}
use Rattle.std.specs.List.{AllByRecursion}
use Rattle.std.proofs.lemmas.Bool.{eqb-true, or_right}
use Rattle.std.specs.Option.{unwrap_or}
use Rattle.acpi_name.specs.Names.{Segment, NameParts}
use Rattle.acpi_space.specs.Search.{answer, missed, tries, skipped}
use Rattle.acpi_space.specs.Laws.{Among}
use Rattle.acpi_space.specs.Lookups.{is_defined_in, is_same_path}
use Rattle.acpi_space.specs.Spaces.{is_defined}
use Rattle.acpi_space.proofs.KeptSearches.{kept_find, fewer_skipped}
use Rattle.acpi_space.proofs.Elements.{among_all, all_map, not_both, one_some, some_is}
use Rattle.acpi_space.proofs.Maps.{none_of_not_some}
use Rattle.acpi_tree.specs.Objects.{ObjectTree, args_of, root_object, scope_object, predefined_object, device_object, processor_object, power_object, thermal_object, name_object, method_object, region_object, mutex_object, event_object, field_object, create_object, create_field_object}
use Rattle.acpi_tree.specs.Terms.{TermTrees}
use Rattle.acpi_declare.specs.Namespace.{Namespace}
use Rattle.acpi_declare.specs.Links.{answers}
use Rattle.acpi_pass.proofs.Unions.{path_same}
use Rattle.acpi_body.specs.Arguments.{Locals, defined_with, expected_place, expected_at, args_at, count_behind}
use Rattle.acpi_body.specs.Bodies.{BodyTree, read, unread}
use Rattle.acpi_order.specs.Bodies.{Method, grammar_of, IsReading, IsBody}
use Rattle.acpi_order.specs.Misses.{IsBodyMiss, IsAwaiting}
use Rattle.acpi_body.specs.Misses.{awaited_place, unless_found}
use Rattle.acpi_body.proofs.Grown.{found_passes}
use Rattle.acpi_order.specs.Independent.{is_method_of}
use Rattle.acpi_order.proofs.Lists.{all_among, skipped_fail}
use Rattle.acpi_order.proofs.Listings.{other_path}
use Rattle.acpi_order.proofs.Picked.{IsKept}
use Rattle.acpi_order.proofs.ReadBodies.{kept_reads, spelled_reads, HasNoReading, body_of, body_is, one_body_there}

some_test : (a b : Option ObjectTree) → ((o : ObjectTree) → a ≡ Some o → b ≡ Some o) → is_some a ≡ true → is_some b ≡ true
some_test None b f e = cc
some_test (Some o) b f e = ap (λ (x : Option ObjectTree). is_some x) (f o refl)

pub not_either : (l : Bool) (a : Option ObjectTree) → (l || is_some a) ≡ false → a ≡ None
not_either false a e = none_of_not_some a e
not_either true a e = cc

pub unless_is : (found other : Option (List Segment)) (a : List Segment) → unless_found found other ≡ Some a → (found ≡ None) × (other ≡ Some a)
unless_is None other a e = (refl, e)
unless_is (Some p) other a e = cc

method_args : (o : ObjectTree) (k : ℕ) → IsTrue (is_method_of o k) → args_of o ≡ k
method_args (method_object flags) k e = eqb-true _ k e
method_args root_object k e = cc
method_args scope_object k e = cc
method_args predefined_object k e = cc
method_args device_object k e = cc
method_args (processor_object i b l) k e = cc
method_args (power_object l o) k e = cc
method_args thermal_object k e = cc
method_args (name_object d) k e = cc
method_args (region_object s o l) k e = cc
method_args (mutex_object f) k e = cc
method_args event_object k e = cc
method_args (field_object w f o b) k e = cc
method_args (create_object w i) k e = cc
method_args (create_field_object i b) k e = cc

-- ---- links

module _ (N M : Namespace) (Miss : List Segment → Type 0) (Await : List Segment → ℕ → Type 0) (kept : IsKept N M Miss Await) where
  kept_answer : (s : List Segment) (n : NameParts) → ((p : List Segment) → Among (missed (is_defined_in N) s n) p → Miss p)
      → answer (is_defined_in M) s n ≡ answer (is_defined_in N) s n
  kept_answer s n missing = kept_find (is_defined_in N) (is_defined_in M) (λ p e. some_test (N p) (M p) (kept.up p) e) (tries s n)
      (all_among (λ p. is_defined_in M p ≡ false) _ (λ p m.
      let none : N p ≡ None = none_of_not_some (N p) (among_all (λ q. is_defined_in N q ≡ false) _ (skipped_fail (is_defined_in N) (tries s n)) p m) in
      ap (λ (a : Option ObjectTree). is_some a) (kept.free p none (missing p m))))

  pub kept_answers : (s : List Segment) (ns : List NameParts) → ((p : List Segment) (n : NameParts) → Among ns n → Among (missed (is_defined_in N) s n) p → Miss p)
      → answers M s ns ≡ answers N s ns
  kept_answers s [] missing = refl
  kept_answers s (n ∷ ns) missing =
      let at = kept_answer s n (λ p m. missing p n (inl refl) m) in
      let more = kept_answers s ns (λ p k i m. missing p k (inr i) m) in
      λ i. at i ∷ more i

-- ---- counts

-- the count of a name that isn't found
abbrev pub expected : Method → NameParts → ℕ
expected m n = expected_at m.counts (expected_place m.counts m.path n)

-- no object there, or one with so many arguments
abbrev IsHarmless : Namespace → ℕ → List Segment → Type 0
IsHarmless M k p = (o : ObjectTree) → M p ≡ Some o → args_of o ≡ k

module _ (N M : Namespace) (up : (p : List Segment) (o : ObjectTree) → N p ≡ Some o → M p ≡ Some o) (locals : Locals) (otherwise : ℕ) where
  abbrev counted : Namespace → List (List Segment) → ℕ
  counted O ts = args_at O locals otherwise (find (defined_with O locals) ts)

  -- what the first of the tries gives, by whether it is defined
  abbrev at_first : Namespace → List Segment → List (List Segment) → Bool → ℕ
  at_first O t ts b = args_at O locals otherwise (cond b (Some t) (find (defined_with O locals) ts))

  count_at : (t : List Segment) (ts : List (List Segment))
      → (AllByRecursion (IsHarmless M (counted N ts)) (skipped (defined_with N locals) ts) → counted M ts ≡ counted N ts)
      → (l : Bool) → is_defined locals t ≡ l → (a : Option ObjectTree) → N t ≡ a → (b : Option ObjectTree) → M t ≡ b
      → AllByRecursion (IsHarmless M (at_first N t ts (l || is_some a))) (cond (l || is_some a) [] (t ∷ skipped (defined_with N locals) ts))
      → at_first M t ts (l || is_some b) ≡ at_first N t ts (l || is_some a)
  count_at t ts rest true il a ea b eb harmless = rw il refl
  count_at t ts rest false il (Some o) ea None eb harmless = absurd (not_both (M t) o (up t o ea) eb)
  count_at t ts rest false il (Some o) ea (Some m) eb harmless = rw (il, up t o ea, ea) refl
  count_at t ts rest false il None ea None eb harmless = rest harmless.1
  count_at t ts rest false il None ea (Some o) eb harmless = rw (il, eb) (harmless.0 o eb)

  -- where each path that the search missed is harmless in the larger namespace, the count is the same
  kept_count : (ts : List (List Segment)) → AllByRecursion (IsHarmless M (counted N ts)) (skipped (defined_with N locals) ts) → counted M ts ≡ counted N ts
  kept_count [] harmless = refl
  kept_count (t ∷ ts) harmless = count_at t ts (kept_count ts) (is_defined locals t) refl (N t) refl (M t) refl harmless

module _ (N M : Namespace) (Miss : List Segment → Type 0) (Await : List Segment → ℕ → Type 0) (kept : IsKept N M Miss Await) (m : Method) where
  none_at : (locals : Locals) (n : NameParts) (p : List Segment) → Among (missed (defined_with N locals) m.path n) p → N p ≡ None
  none_at locals n p k = not_either (is_defined locals p) (N p) (among_all (λ q. defined_with N locals q ≡ false) _ (skipped_fail (defined_with N locals) (tries m.path n)) p k)

  -- the count is kept where each path that was missed is a miss
  kept_firm : (locals : Locals) (n : NameParts) → ((p : List Segment) → Among (missed (defined_with N locals) m.path n) p → Miss p) → (grammar_of M m locals).args n ≡ (grammar_of N m locals).args n
  kept_firm locals n missing = ap Some (kept_count N M kept.up locals (expected m n) (tries m.path n)
      (all_among _ _ (λ p k o at. absurd (not_both (M p) o at (kept.free p (none_at locals n p k) (missing p k))))))

  -- .. and where one of them, whose External gave the count, is awaited
  kept_open : (locals : Locals) (n : NameParts)
      → ((p : List Segment) → Among (missed (defined_with N locals) m.path n) p → awaited_place N m.counts m.path locals n ≢ Some p → Miss p)
      → ((p : List Segment) (k : ℕ) → awaited_place N m.counts m.path locals n ≡ Some p → m.counts p ≡ Some k → Await p k) → (grammar_of M m locals).args n ≡ (grammar_of N m locals).args n
  kept_open locals n missing awaits = by (awaited_place N m.counts m.path locals n) refl
    where
      harmless : (a : List Segment) → awaited_place N m.counts m.path locals n ≡ Some a → (k : ℕ) → m.counts a ≡ Some k → (p : List Segment)
          → Among (missed (defined_with N locals) m.path n) p → (b : Bool) → is_same_path p a ≡ b → IsHarmless M k p
      harmless a is k counts p i true same o at =
          let e = path_same p a same in
          method_args o k (kept.met a k o (subst (λ q. N q ≡ None) e (none_at locals n p i)) (awaits a k is counts) (subst (λ q. M q ≡ Some o) e at))
      harmless a is k counts p i false same o at =
          let firm : awaited_place N m.counts m.path locals n ≢ Some p = λ w. other_path p a same (sym (one_some a p (sym is ∙ w))) in
          absurd (not_both (M p) o at (kept.free p (none_at locals n p i) (missing p i firm)))

      by : (w : Option (List Segment)) → awaited_place N m.counts m.path locals n ≡ w → (grammar_of M m locals).args n ≡ (grammar_of N m locals).args n
      by None is = kept_firm locals n (λ p k. missing p k (λ e. let never : ⊥ = not_both _ p e is in never))
      by (Some a) is =
          let both = unless_is (answer (defined_with N locals) m.path n) _ a is in
          let r = some_is (m.counts a) (found_passes (λ q. is_some (m.counts q)) (tries m.path n) a both.1) in
          let counted : count_behind N m.counts m.path locals n ≡ r.0 = ap (args_at N locals (expected m n)) both.0 ∙ ap (expected_at m.counts) both.1 ∙ ap (λ c. unwrap_or c 0) r.1 in
          ap Some (kept_count N M kept.up locals (expected m n) (tries m.path n)
          (all_among _ _ (λ p i. subst (λ k. IsHarmless M k p) (sym counted) (harmless a is r.0 r.1 p i (is_same_path p a) refl))))

  module _ (depth : ℕ) (missing : (p : List Segment) → IsBodyMiss depth N m p → Miss p) (awaits : (p : List Segment) (k : ℕ) → IsAwaiting depth N m p k → Await p k) where
    kept_reading : (ts : TermTrees) → IsReading depth N m ts → IsReading depth M m ts
    kept_reading ts h = kept_reads depth (grammar_of N m) (grammar_of M m) m.path m.code ts (inl (λ locals may. may))
        (all_among _ _ (λ e i. sym (kept_open e.0 e.1
        (λ p k firm. missing p (read ts, h, record { locals = e.0; name = e.1; searched = i; misses = k; firm = firm }))
        (λ p k w c. awaits p k (read ts, h, record { locals = e.0; name = e.1; searched = i; awaits = w; expects = c })))))
        h

    kept_none : HasNoReading depth N m → HasNoReading depth M m
    kept_none none ts h = none ts (kept_reads depth (grammar_of M m) (grammar_of N m) m.path m.code ts (inl (λ locals may. may))
        (all_map _ _ (λ e spelled. kept_firm e.0 e.1 (λ p k.
        let fewer = fewer_skipped (is_defined_in N) (defined_with N e.0) (λ q. or_right (is_defined e.0 q) (is_defined_in N q)) (tries m.path e.1) p k in
        missing p (unread m.code, (refl, none), record { name = e.1; spelled = spelled; misses = fewer })))
        _ (spelled_reads depth (grammar_of M m) m.path m.code ts h))
        h)

    pub kept_body : (v : BodyTree) → IsBody depth N m v → IsBody depth M m v
    kept_body (read ts) h = kept_reading ts h
    kept_body (unread b) h = (h.0, kept_none h.1)

pub kept_body_of : (N M : Namespace) (Miss : List Segment → Type 0) (Await : List Segment → ℕ → Type 0) → IsKept N M Miss Await → (m : Method) (depth : ℕ)
    → ((p : List Segment) → IsBodyMiss depth N m p → Miss p) → ((p : List Segment) (k : ℕ) → IsAwaiting depth N m p k → Await p k) → body_of depth M m ≡ body_of depth N m
kept_body_of N M Miss Await kept m depth missing awaits =
    one_body_there depth M m (body_of depth M m) (body_of depth N m) (body_is depth M m)
    (kept_body N M Miss Await kept m depth missing awaits (body_of depth N m) (body_is depth N m))
