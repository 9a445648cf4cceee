-- Each list of tables has a run from each state.
use Rattle.std.proofs.Common.{◌≡◌, ◌≢◌, Bool, true, false, List, [], ◌∷◌, ◌⊎◌, inl, inr, Option, Some, None, refl, sym, ap, subst, ◌∙◌, zero}
use Rattle.std.specs.List.{AllByRecursion}
use Rattle.acpi_name.specs.Names.{Segment, NameParts}
use Rattle.acpi_name.specs.Paths.{place_of, parent_of}
use Rattle.acpi_space.specs.Lookups.{is_defined_in}
use Rattle.acpi_space.specs.Search.{answer}
use Rattle.acpi_space.proofs.Elements.{one_some, not_both}
use Rattle.acpi_conditions.specs.Nodes.{Place, Term, Nodes, no_nodes, declares, opens, branch, loop, stop}
use Rattle.acpi_conditions.specs.Entries.{Path, Namespace, IsScopeIn, IsFoundIn, Turn, then_branch, within}
use Rattle.acpi_conditions.specs.Runs.{Makes, State, state_inside, state_past, Ending, goes_on, stops, Running, IsFollowed, IsDeclaring, Finds, with_turn, with_stop, IsOpening, IsBranching, IsLooping, IsStopping, IsRun, AreRuns}
use Rattle.acpi_conditions.proofs.Basics.{never}

-- ---- what can be decided

scope_or_not : (objects : Namespace) (p : Path) → IsScopeIn objects p ⊎ (IsScopeIn objects p → ⊥)
scope_or_not objects p = by (objects p) refl
  where
    at : (t : Term) → objects p ≡ Some t → (b : Bool) → t.is_scope ≡ b → IsScopeIn objects p ⊎ (IsScopeIn objects p → ⊥)
    at t e true is = inl (t, e, is)
    at t e false is = inr (λ s. never s.0.is_scope s.2 (ap (λ (t : Term). t.is_scope) (one_some s.0 t (sym s.1 ∙ e)) ∙ is))

    by : (o : Option Term) → objects p ≡ o → IsScopeIn objects p ⊎ (IsScopeIn objects p → ⊥)
    by None e = inr (λ s. not_both (objects p) s.0 s.1 e)
    by (Some t) e = at t e t.is_scope refl

found_or_not : (objects : Namespace) (s : Path) (n : NameParts) → IsFoundIn objects s n ⊎ (IsFoundIn objects s n → ⊥)
found_or_not objects s n = by (answer (is_defined_in objects) s n) refl
  where
    by : (o : Option Path) → answer (is_defined_in objects) s n ≡ o → IsFoundIn objects s n ⊎ (IsFoundIn objects s n → ⊥)
    by None e = inr (λ f. not_both (answer (is_defined_in objects) s n) f.0 f.1 e)
    by (Some p) e = inl (p, e)

all_or_not : (objects : Namespace) (s : Path) (ns : List NameParts) → AllByRecursion (IsFoundIn objects s) ns ⊎ (AllByRecursion (IsFoundIn objects s) ns → ⊥)
all_or_not objects s [] = inl tt
all_or_not objects s (n ∷ ns) = by (found_or_not objects s n) (all_or_not objects s ns)
  where
    by : IsFoundIn objects s n ⊎ (IsFoundIn objects s n → ⊥) → AllByRecursion (IsFoundIn objects s) ns ⊎ (AllByRecursion (IsFoundIn objects s) ns → ⊥)
        → AllByRecursion (IsFoundIn objects s) (n ∷ ns) ⊎ (AllByRecursion (IsFoundIn objects s) (n ∷ ns) → ⊥)
    by (inl f) (inl g) = inl (f, g)
    by (inl f) (inr no_g) = inr (λ h. no_g h.1)
    by (inr no_f) g = inr (λ h. no_f h.0)

abbrev Decided : Namespace → Path → Term → Type 0
Decided objects s t = ((p : Path) × Makes objects s t p) ⊎ ((p : Path) → Makes objects s t p → ⊥)

module _ (objects : Namespace) (s : Path) (t : Term) where
  decided_at : (p : Path) → t.name.segments ≢ [] → place_of s t.name ≡ Some p → IsScopeIn objects (parent_of p) ⊎ (IsScopeIn objects (parent_of p) → ⊥) → (o : Option Term) → objects p ≡ o
      → AllByRecursion (IsFoundIn objects s) t.needs ⊎ (AllByRecursion (IsFoundIn objects s) t.needs → ⊥) → Decided objects s t
  decided_at p some placed (inl parent) None free (inl needs) = inl (p, record { has_segments = some; placed = placed; parent = parent; free = free; needs = needs })
  decided_at p some placed parent o free (inr not) = inr (λ q m. not m.needs)
  decided_at p some placed parent (Some u) there needs = inr (λ q m.
      let same : p ≡ q = one_some p q (sym placed ∙ m.placed) in not_both (objects q) u (ap objects (sym same) ∙ there) m.free)
  decided_at p some placed (inr not) None free needs = inr (λ q m.
      let same : p ≡ q = one_some p q (sym placed ∙ m.placed) in not (subst (λ (p : Path). IsScopeIn objects (parent_of p)) (sym same) m.parent))

  placed_or_not : t.name.segments ≢ [] → (o : Option Path) → place_of s t.name ≡ o → Decided objects s t
  placed_or_not some None e = inr (λ p m. not_both (place_of s t.name) p m.placed e)
  placed_or_not some (Some p) e = decided_at p some e (scope_or_not objects (parent_of p)) (objects p) refl (all_or_not objects s t.needs)

  named_or_not : (gs : List Segment) → t.name.segments ≡ gs → Decided objects s t
  named_or_not [] e = inr (λ p m. m.has_segments e)
  named_or_not (g ∷ gs) e = placed_or_not (λ f. let h : [] ≡ g ∷ gs = sym f ∙ e in cc) (place_of s t.name) refl

  decided : Decided objects s t
  decided = named_or_not t.name.segments refl

finds_or_not : (objects : Namespace) (s : Path) (n : NameParts) → ((p : Path) × Finds objects s n p) ⊎ ((p : Path) → Finds objects s n p → ⊥)
finds_or_not objects s n = by (answer (is_defined_in objects) s n) refl
  where
    at : (p : Path) → answer (is_defined_in objects) s n ≡ Some p → IsScopeIn objects p ⊎ (IsScopeIn objects p → ⊥) → ((p : Path) × Finds objects s n p) ⊎ ((p : Path) → Finds objects s n p → ⊥)
    at p e (inl is) = inl (p, (e, is))
    at p e (inr not) = inr (λ q f. not (subst (λ (q : Path). IsScopeIn objects q) (one_some q p (sym f.0 ∙ e)) f.1))

    by : (o : Option Path) → answer (is_defined_in objects) s n ≡ o → ((p : Path) × Finds objects s n p) ⊎ ((p : Path) → Finds objects s n p → ⊥)
    by None e = inr (λ p f. not_both (answer (is_defined_in objects) s n) p f.0 e)
    by (Some p) e = at p e (scope_or_not objects p)

-- ---- a run

abbrev HasRun : Running → Type 0
HasRun r = (s : Path) (w : List Turn) (S : State) → (e : Ending) × (S' : State) × r s w S e S'

run_followed : (rh rr : Running) → HasRun rh → HasRun rr → HasRun (IsFollowed rh rr)
run_followed rh rr h n s w S = let o = h s w S in by o.0 o.1 o.2
  where
    by : (m : Ending) (M : State) → rh s w S m M → (e : Ending) × (S' : State) × IsFollowed rh rr s w S e S'
    by goes_on M r = let o = n s w M in (o.0, o.1, (goes_on, M, r, o.2))
    by (stops kind) M r = (stops kind, M, (stops kind, M, r, (refl, refl)))

run_declaring : (t : Term) (ri : Running) → HasRun ri → HasRun (IsDeclaring t ri)
run_declaring t ri h s w S = by (decided S.objects s t)
  where
    by : Decided S.objects s t → (e : Ending) × (S' : State) × IsDeclaring t ri s w S e S'
    by (inl m) = let o = h m.0 (within t.place ∷ w) (state_inside s w t m.0 S) in (o.0, o.1, inl (m.0, m.1, o.2))
    by (inr not) = (goes_on, state_past s w t S, inr (not, (refl, refl)))

run_opening : (place : Place) (n : NameParts) (ri : Running) → HasRun ri → HasRun (IsOpening place n ri)
run_opening place n ri h s w S = by (finds_or_not S.objects s n)
  where
    by : ((p : Path) × Finds S.objects s n p) ⊎ ((p : Path) → Finds S.objects s n p → ⊥) → (e : Ending) × (S' : State) × IsOpening place n ri s w S e S'
    by (inl m) = let o = h m.0 (within place ∷ w) (with_turn (within place) S) in (o.0, o.1, inl (m.0, m.1, o.2))
    by (inr not) = (goes_on, S, inr (not, (refl, refl)))

run_nodes : (ns : Nodes) → HasRun (IsRun ns)
run_nodes no_nodes = λ s w S. (goes_on, S, (refl, refl))
run_nodes (declares t inside rest) = run_followed (IsDeclaring t (IsRun inside)) (IsRun rest) (run_declaring t (IsRun inside) (run_nodes inside)) (run_nodes rest)
run_nodes (opens place n inside rest) = run_followed (IsOpening place n (IsRun inside)) (IsRun rest) (run_opening place n (IsRun inside) (run_nodes inside)) (run_nodes rest)
run_nodes (branch place first other rest) =
    run_followed (IsBranching place (IsRun first) (IsRun other)) (IsRun rest) (λ s w S. let o = run_nodes first s (then_branch place ∷ w) (with_turn (then_branch place) S) in (o.0, o.1, inl o.2)) (run_nodes rest)
run_nodes (loop place body rest) = run_followed (IsLooping place (IsRun body)) (IsRun rest) (λ s w S. (goes_on, S, (zero, (refl, refl)))) (run_nodes rest)
run_nodes (stop place kind rest) = run_followed (IsStopping place kind) (IsRun rest) (λ s w S. (stops kind, with_stop place S, (refl, refl))) (run_nodes rest)

pub runs_exist : (ts : List Nodes) (S : State) → (S' : State) × AreRuns ts S S'
runs_exist [] S = (S, refl)
runs_exist (t ∷ ts) S = let o = run_nodes t [] [] S in let n = runs_exist ts o.1 in (n.0, (o.0, o.1, o.2, n.1))
