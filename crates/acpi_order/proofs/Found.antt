-- What a body awaits is found in the load of independent tables, where one of them declares it.
use Rattle.std.proofs.Common.{◌≡◌, ◌≢◌, ℕ, Bool, true, false, cond, ◌||◌, List, [], ◌∷◌, find, is_some, Option, Some, None, IsTrue, inl, inr, refl, sym, ap, ◌∙◌}
use Rattle.acpi_name.specs.Names.{Segment, NameParts}
use Rattle.acpi_space.specs.Search.{answer, tries, skipped}
use Rattle.acpi_space.specs.Laws.{Among}
use Rattle.acpi_space.specs.Lookups.{is_same_path}
use Rattle.acpi_space.specs.Spaces.{is_defined}
use Rattle.acpi_space.proofs.Elements.{among_all, one_some}
use Rattle.acpi_space.proofs.LongestAnswer.{found_among}
use Rattle.acpi_tree.specs.Objects.{ObjectTree}
use Rattle.acpi_declare.specs.Namespace.{Namespace}
use Rattle.acpi_pass.proofs.Unions.{path_same}
use Rattle.std.specs.FinMap as finite
use Rattle.acpi_tree.specs.Terms.{TermTrees}
use Rattle.acpi_body.specs.Arguments.{Locals, defined_with}
use Rattle.acpi_body.specs.Bodies.{read}
use Rattle.acpi_body.specs.Searches.{all_searches}
use Rattle.acpi_body.specs.Misses.{awaited_place}
use Rattle.acpi_order.specs.Bodies.{Method, IsReading}
use Rattle.acpi_order.specs.Misses.{IsBodyMiss, IsAwaiting, IsMiss, IsAwaited, objects_of_both}
use Rattle.acpi_order.specs.Independent.{is_method_of}
use Rattle.acpi_order.specs.Laws.{AwaitedIsFound}
use Rattle.acpi_order.proofs.Lists.{skipped_fail}
use Rattle.acpi_order.proofs.Listings.{other_path}
use Rattle.acpi_order.proofs.Picked.{IsKept}
use Rattle.acpi_order.proofs.Counted.{unless_is, not_either}
use Rattle.acpi_order.proofs.Joined.{kept_in_load}

missed_if_none : {X : Type 0} (test : X → Bool) (t : X) (ts : List X) (q : X) → (find test ts ≡ None → Among ts q → Among (skipped test ts) q) → (b : Bool) → test t ≡ b
    → cond b (Some t) (find test ts) ≡ None → Among (t ∷ ts) q → Among (cond b [] (t ∷ skipped test ts)) q
missed_if_none test t ts q rest true is e m = cc
missed_if_none test t ts q rest false is e (inl s) = inl s
missed_if_none test t ts q rest false is e (inr m) = inr (rest e m)

-- where nothing is found, each was missed
all_missed : {X : Type 0} (test : X → Bool) (ts : List X) (q : X) → find test ts ≡ None → Among ts q → Among (skipped test ts) q
all_missed test [] q e m = m
all_missed test (t ∷ ts) q e m = missed_if_none test t ts q (all_missed test ts q) (test t) refl e m

found_there : {X : Type 0} (t a : X) (ts : List X) (rest : Option X) → (rest ≡ Some a → Among ts a) → (b : Bool) → cond b (Some t) rest ≡ Some a → Among (t ∷ ts) a
found_there t a ts rest more true e = inl (one_some t a e)
found_there t a ts rest more false e = inr (more e)

only_step : (test : List Segment → Bool) (p t : List Segment) (ts : List (List Segment)) → test p ≡ true → (t ≢ p → test t ≡ false) → (Among ts p → find test ts ≡ Some p)
    → Among (t ∷ ts) p
    → (b : Bool) → is_same_path t p ≡ b → find test (t ∷ ts) ≡ Some p
only_step test p t ts passes others rest m true same = let e = path_same t p same in ap (λ x. cond x (Some t) (find test ts)) (ap test e ∙ passes) ∙ ap (λ x. Some x) e
only_step test p t ts passes others rest (inl e) false same = absurd (other_path t p same e)
only_step test p t ts passes others rest (inr m) false same =
    ap (λ x. cond x (Some t) (find test ts)) (others (λ e. other_path t p same e)) ∙ rest m

-- the only one that passes is found
find_only : (test : List Segment → Bool) (p : List Segment) → test p ≡ true → (ts : List (List Segment)) → ((q : List Segment) → Among ts q → q ≢ p → test q ≡ false)
    → Among ts p → find test ts ≡ Some p
find_only test p passes [] others m = absurd m
find_only test p passes (t ∷ ts) others m = only_step test p t ts passes (others t (inl refl)) (find_only test p passes ts (λ q i. others q (inr i))) m (is_same_path t p) refl

neither : (l : Bool) (a b : Option ObjectTree) → (l || is_some a) ≡ false → b ≡ None → (l || is_some b) ≡ false
neither false a b e none = ap (λ (x : Option ObjectTree). is_some x) none
neither true a b e none = e

either : (l : Bool) (a : Option ObjectTree) (o : ObjectTree) → a ≡ Some o → (l || is_some a) ≡ true
either true a o e = refl
either false a o e = ap (λ (x : Option ObjectTree). is_some x) e

module _ (depth : ℕ) (N M : Namespace) (Miss : List Segment → Type 0) (Await : List Segment → ℕ → Type 0) (kept : IsKept N M Miss Await) (w : Method)
    (missing : (p : List Segment) → IsBodyMiss depth N w p → Miss p) (awaits : (p : List Segment) (k : ℕ) → IsAwaiting depth N w p k → Await p k) where
  found : (ts : TermTrees) → IsReading depth N w ts → (locals : Locals) (n : NameParts) → Among (all_searches w.path finite.empty ts) (locals, n)
      → (p : List Segment) → awaited_place N w.counts w.path locals n ≡ Some p → (o : ObjectTree) → M p ≡ Some o
      → (answer (defined_with M locals) w.path n ≡ Some p) × ((args : ℕ) → w.counts p ≡ Some args → IsTrue (is_method_of o args))
  found ts h locals n searched p awaited o at =
      let both = unless_is (answer (defined_with N locals) w.path n) _ p awaited in
      let among = found_among (λ q. is_some (w.counts q)) (tries w.path n) p both.1 in
      let fails : (q : List Segment) → Among (tries w.path n) q → defined_with N locals q ≡ false =
      λ q i. among_all (λ x. defined_with N locals x ≡ false) _ (skipped_fail (defined_with N locals) (tries w.path n)) q
      (all_missed (defined_with N locals) (tries w.path n) q both.0 i) in (
        find_only (defined_with M locals) p (either (is_defined locals p) (M p) o at) (tries w.path n)
            (λ q i ne.
            let here = all_missed (defined_with N locals) (tries w.path n) q both.0 i in
            let firm : awaited_place N w.counts w.path locals n ≢ Some q = λ e. ne (one_some q p (sym e ∙ awaited)) in
            let miss = missing q (read ts, h, record { locals = locals; name = n; searched = searched; misses = here; firm = firm }) in
            neither (is_defined locals q) (N q) (M q) (fails q i) (kept.free q (not_either (is_defined locals q) (N q) (fails q i)) miss))
            among,
        (λ args c.
            let wait = awaits p args (read ts, h, record { locals = locals; name = n; searched = searched; awaits = awaited; expects = c }) in
            kept.met p args o (not_either (is_defined locals p) (N p) (fails p among)) wait at),
      )

pub awaited_is_found : AwaitedIsFound
awaited_is_found depth dsdt ssdts m h load b i first t k w among ts reading locals n searched p awaited o at =
    found depth (objects_of_both first t) m.objects (IsMiss depth first t) (IsAwaited depth first t) (kept_in_load depth dsdt ssdts m h load b i first t k) w
    (λ q miss. inr (inr (w, among, miss))) (λ q args wait. (w, among, wait)) ts reading locals n searched p awaited o at
