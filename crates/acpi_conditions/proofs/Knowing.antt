-- What the statuses of paths say of what is made.
use Rattle.std.proofs.Common.{◌≡◌, Bool, true, false, cond, not, ◌&&◌, ◌||◌, List, [], ◌∷◌, find, is_some, inl, inr, Option, Some, None, refl, sym, ap, subst, ◌∙◌}
use Rattle.std.specs.List.{list_any}
use Rattle.std.proofs.lemmas.Bool.{and_from, false_from_ne_true}
use Rattle.acpi_name.specs.Names.{NameParts}
use Rattle.acpi_space.specs.Lookups.{is_same_path, is_defined_in}
use Rattle.acpi_space.specs.Search.{answer, tries}
use Rattle.acpi_space.specs.Laws.{Among}
use Rattle.acpi_space.proofs.Elements.{one_some, not_both, none_of, some_is}
use Rattle.acpi_conditions.specs.Nodes.{Term}
use Rattle.acpi_conditions.specs.Entries.{Path, Namespace, IsScopeIn, IsFoundIn}
use Rattle.acpi_conditions.specs.Known.{Known, is_certain, is_certain_scope, is_possible, is_possible_scope, up_to_certain, candidates, is_certain_name, IsTrueOf}
use Rattle.acpi_conditions.proofs.Basics.{and_left, and_right, never, any_some, some_any, some_found, same_path, path_itself}

module _ (objects : Namespace) (k : Known) (h : IsTrueOf objects k) where
  pub certain_made : (p : Path) → is_certain k p ≡ true → (t : Term) × (objects p ≡ Some t)
  certain_made p e =
      let c = any_some (λ c. is_same_path c.path p) k.certain e in
      let m = h.certain c.0 c.1 in
      let same : c.0.path ≡ p = same_path c.0.path p c.2 in
      (m.0, ap objects (sym same) ∙ m.1)

  pub certain_scope_made : (p : Path) → is_certain_scope k p ≡ true → IsScopeIn objects p
  certain_scope_made p e =
      let c = any_some (λ c. is_same_path c.path p && c.is_scope) k.certain e in
      let m = h.certain c.0 c.1 in
      let same : c.0.path ≡ p = same_path c.0.path p (and_left _ c.0.is_scope c.2) in
      (m.0, ap objects (sym same) ∙ m.1, m.2 (and_right (is_same_path c.0.path p) c.0.is_scope c.2))

  pub free_uncertain : (p : Path) → objects p ≡ None → is_certain k p ≡ false
  free_uncertain p e = false_from_ne_true (is_certain k p) (λ c. let m = certain_made p c in not_both (objects p) m.0 m.1 e)

  pub made_possible : (p : Path) (t : Term) → objects p ≡ Some t → is_possible k p ≡ true
  made_possible p t e = by k.in_loop refl
    where
      by : (b : Bool) → k.in_loop ≡ b → (b || list_any (λ e. is_same_path e.path p) k.entries) ≡ true
      by true is = refl
      by false is =
          let n = h.possible (ap not is) p t e in
          some_any (λ e. is_same_path e.path p) k.entries n.0 n.1 (path_itself n.0.path p n.2)

  pub made_possible_scope : (p : Path) → IsScopeIn objects p → is_possible_scope k p ≡ true
  made_possible_scope p s = by k.in_loop refl
    where
      by : (b : Bool) → k.in_loop ≡ b → (b || list_any (λ e. is_same_path e.path p && e.term.is_scope) k.entries) ≡ true
      by true is = refl
      by false is =
          let n = h.possible (ap not is) p s.0 s.1 in
          some_any (λ e. is_same_path e.path p && e.term.is_scope) k.entries n.0 n.1
          (and_from (is_same_path n.0.path p) n.0.term.is_scope (path_itself n.0.path p n.2) (ap (λ (t : Term). t.is_scope) n.3 ∙ s.2))

  pub impossible_free : (p : Path) → is_possible k p ≡ false → objects p ≡ None
  impossible_free p e = none_of (objects p) (λ t m. never (is_possible k p) (made_possible p t m) e)

  -- ---- search

  defined_of : (p : Path) (t : Term) → objects p ≡ Some t → is_defined_in objects p ≡ true
  defined_of p t e = ap (λ (o : Option Term). is_some o) e

  pub certain_found : (s : Path) (n : NameParts) → is_certain_name k s n ≡ true → IsFoundIn objects s n
  certain_found s n e =
      let p = any_some (is_certain k) (tries s n) e in
      let m = certain_made p.0 p.2 in
      some_found (is_defined_in objects) (tries s n) p.0 p.1 (defined_of p.0 m.0 m.1)

  covered_at : (q p : Path) (rest : Option Path) (more : List Path) → (rest ≡ Some p → Among more p) → (d c b : Bool) → is_defined_in objects q ≡ d → is_certain k q ≡ c → is_possible k q ≡ b
      → cond d (Some q) rest ≡ Some p → Among (cond c (q ∷ []) (cond b (q ∷ more) more)) p
  covered_at q p rest more ih true true b is c o e = inl (one_some q p e)
  covered_at q p rest more ih true false true is c o e = inl (one_some q p e)
  covered_at q p rest more ih true false false is c o e =
      let m = some_is (objects q) is in absurd (not_both (objects q) m.0 m.1 (impossible_free q o))
  covered_at q p rest more ih false true b is c o e =
      let m = certain_made q c in absurd (never (is_defined_in objects q) (defined_of q m.0 m.1) is)
  covered_at q p rest more ih false false true is c o e = inr (ih e)
  covered_at q p rest more ih false false false is c o e = ih e

  pub covered : (ps : List Path) (p : Path) → find (is_defined_in objects) ps ≡ Some p → Among (up_to_certain k ps) p
  covered [] p e = cc
  covered (q ∷ ps) p e =
      covered_at q p (find (is_defined_in objects) ps) (up_to_certain k ps) (covered ps p) (is_defined_in objects q) (is_certain k q) (is_possible k q) refl refl refl e

  -- what a search finds is a candidate
  pub found_candidate : (s : Path) (n : NameParts) (p : Path) → answer (is_defined_in objects) s n ≡ Some p → Among (candidates k s n) p
  found_candidate s n p e = covered (tries s n) p e

tried_at : (k : Known) (q p : Path) (more ps : List Path) → (Among more p → Among ps p) → (c b : Bool) → Among (cond c (q ∷ []) (cond b (q ∷ more) more)) p → Among (q ∷ ps) p
tried_at k q p more ps ih true b (inl e) = inl e
tried_at k q p more ps ih true b (inr m) = absurd m
tried_at k q p more ps ih false true (inl e) = inl e
tried_at k q p more ps ih false true (inr m) = inr (ih m)
tried_at k q p more ps ih false false m = inr (ih m)

pub tried : (k : Known) (ps : List Path) (p : Path) → Among (up_to_certain k ps) p → Among ps p
tried k [] p m = m
tried k (q ∷ ps) p m = tried_at k q p (up_to_certain k ps) ps (tried k ps p) (is_certain k q) (is_possible k q) m

module _ (objects : Namespace) (k : Known) (h : IsTrueOf objects k) (s : Path) (n : NameParts) (p : Path) (one : candidates k s n ≡ p ∷ []) where
  only_candidate : (q : Path) → Among (candidates k s n) q → p ≡ q
  only_candidate q m = by (subst (λ (ps : List Path). Among ps q) one m)
    where
      by : Among (p ∷ []) q → p ≡ q
      by (inl e) = e
      by (inr m) = absurd m

  pub one_found : (q : Path) → answer (is_defined_in objects) s n ≡ Some q → p ≡ q
  one_found q e = only_candidate q (found_candidate objects k h s n q e)

  -- the one candidate is found where it is made
  pub one_finds : (t : Term) → objects p ≡ Some t → answer (is_defined_in objects) s n ≡ Some p
  one_finds t e =
      let here : Among (candidates k s n) p = subst (λ (ps : List Path). Among ps p) (sym one) (inl refl) in
      let f = some_found (is_defined_in objects) (tries s n) p (tried k (tries s n) p here) (ap (λ (o : Option Term). is_some o) e) in
      f.1 ∙ ap Some (sym (one_found f.0 f.1))
