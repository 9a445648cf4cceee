-- What one step more says.
use Rattle.std.specs.Prelude.{◌&&◌, ◌||◌}
use Rattle.std.proofs.Common.{◌≡◌, ◌∙◌, ◌<◌, ◌≤◌, ◌+◌, ◌++◌, ℕ, Bool, true, false, List, [], ◌∷◌, length, drop, get_or, take, refl, sym, ap, arith, append_assoc, append-nil, length-append}
use Rattle.std.proofs.lemmas.List.{drop_more, length-take-le}
use Rattle.std.specs.Borrow.{Bor}
use Rattle.std.proofs.lemmas.Grind.{common_steps}
use Rattle.acpi_name.specs.Names.{NameParts}
use Rattle.acpi_tree.specs.TermView.{term_view, terms_tree}
use Rattle.acpi_tree.specs.declared.term.Term.{Term}
use Rattle.acpi_uses.specs.declared.exits.Exits.{Exits}
use Rattle.acpi_uses.specs.Exits.{exits_in, exits_of, in_turn}
use Rattle.acpi_uses.specs.Guards.{GuardedTree, guarded_in, guarded_of, shown_behind}
use Rattle.acpi_uses.specs.declared.guards.GuardStep.{GuardStep}
use Rattle.acpi_uses.specs.declared.guards.GuardStep.TheVariants.{Show, Keep, Statement}
use Rattle.acpi_uses.specs.GuardSteps.{guarded_by}
use Rattle.acpi_uses.specs.steps.GuardWalks.{found_by, names_after, shown_behind_all, shown_by}

pub guarded_by_one_more : (names : List NameParts) (ss : List GuardStep) (s : GuardStep)
    → guarded_by names (ss ++ s ∷ []) ≡ guarded_by names ss ++ guarded_by (names_after names ss) (s ∷ [])
guarded_by_one_more names [] s = refl
guarded_by_one_more names (Show n ∷ ss) s = guarded_by_one_more (names ++ n.now ∷ []) ss s
guarded_by_one_more names (Keep count ∷ ss) s = guarded_by_one_more (take count names) ss s
guarded_by_one_more names (Statement t ∷ ss) s =
    ap (λ l. (names, term_view t.now) ∷ l) (guarded_by_one_more names ss s)

pub names_after_one_more : (names : List NameParts) (ss : List GuardStep) (s : GuardStep)
    → names_after names (ss ++ s ∷ []) ≡ names_after (names_after names ss) (s ∷ [])
names_after_one_more names [] s = refl
names_after_one_more names (Show n ∷ ss) s = names_after_one_more (names ++ n.now ∷ []) ss s
names_after_one_more names (Keep count ∷ ss) s = names_after_one_more (take count names) ss s
names_after_one_more names (Statement t ∷ ss) s = names_after_one_more names ss s

-- no more names are shown than there are steps
pub names_are_few : (names : List NameParts) (ss : List GuardStep)
    → length (names_after names ss) ≤ length names + length ss
names_are_few names [] = omega arith
names_are_few names (Show n ∷ ss) =
    let h = names_are_few (names ++ n.now ∷ []) ss in
    grind (arith, common_steps, h)
names_are_few names (Keep count ∷ ss) =
    let h = names_are_few (take count names) ss in
    grind (arith, common_steps, h)
names_are_few names (Statement t ∷ ss) =
    let h = names_are_few names ss in
    omega (arith, h)

-- ---- behind a name, and behind fewer names

pub name_is_no_statement : (old new : List GuardStep) (n : Bor NameParts)
    → new ≡ old ++ Show n ∷ [] → found_by new ≡ found_by old
name_is_no_statement old new n e = rw (e, guarded_by_one_more [] old (Show n)) (append-nil (found_by old))

pub name_is_counted : (old new : List GuardStep) (n : Bor NameParts) (count : ℕ)
    → new ≡ old ++ Show n ∷ [] → count ≡ length (shown_by old) → count + 1 ≡ length (shown_by new)
name_is_counted old new n count e h =
    rw (e, names_after_one_more [] old (Show n))
    (omega (arith, length-append (shown_by old) (n.now ∷ []), h))

pub keep_is_no_statement : (old new : List GuardStep) (count : ℕ)
    → new ≡ old ++ Keep count ∷ [] → found_by new ≡ found_by old
keep_is_no_statement old new count e =
    rw (e, guarded_by_one_more [] old (Keep count)) (append-nil (found_by old))

pub kept_are_counted : (old new : List GuardStep) (count : ℕ)
    → new ≡ old ++ Keep count ∷ [] → count ≤ length (shown_by old) → count ≡ length (shown_by new)
kept_are_counted old new count e few =
    rw (e, names_after_one_more [] old (Keep count)) (sym (length-take-le count (shown_by old) few))

-- ---- a statement more of a list

pub drop_step : (ts : List Term) (i : ℕ) (t : Term) → i < length ts → t ≡ get_or ts i t → drop i ts ≡ t ∷ drop (i + 1) ts
drop_step ts i t lt at = rw (drop_more ts i t lt, sym at) refl

pub statements_step : (f0 f1 f2 : List GuardedTree) (s0 s1 s2 : List NameParts) (t : Term) (ts : List Term) (all : List GuardedTree)
    → f0 ++ guarded_of s0 (terms_tree (t ∷ ts)) ≡ all
    → f1 ≡ f0 ++ (s0, term_view t) ∷ [] → s1 ≡ s0
    → f2 ≡ f1 ++ guarded_in s1 (term_view t) → s2 ≡ s1 ++ shown_behind (term_view t)
    → f2 ++ guarded_of s2 (terms_tree ts) ≡ all
statements_step f0 f1 f2 s0 s1 s2 t ts all h e1 same e2 behind = rw (e2, behind, e1, same, append_assoc, append_assoc) h

pub names_step : (s0 s1 s2 : List NameParts) (t : Term) (ts : List Term) (all : List NameParts)
    → s0 ++ shown_behind_all (terms_tree (t ∷ ts)) ≡ all → s1 ≡ s0 → s2 ≡ s1 ++ shown_behind (term_view t)
    → s2 ++ shown_behind_all (terms_tree ts) ≡ all
names_step s0 s1 s2 t ts all h same behind = rw (behind, same, append_assoc) h

-- ---- exits, from the left

ends_in_turn : (a b c : Bool) → ((a && b) && c) ≡ (a && (b && c))
ends_in_turn true b c = refl
ends_in_turn false b c = refl

ways_in_turn : (p e q f r : Bool) → ((p || (e && q)) || ((e && f) && r)) ≡ (p || (e && (q || (f && r))))
ways_in_turn true e q f r = refl
ways_in_turn false true q f r = refl
ways_in_turn false false q f r = refl

abbrev exits_with : Bool → Bool → Bool → Bool → Exits
exits_with a b c d = record { end = a; by_return = b; by_break = c; by_continue = d }

same_exits : (a a' b b' c c' d d' : Bool) → a ≡ a' → b ≡ b' → c ≡ c' → d ≡ d' → exits_with a b c d ≡ exits_with a' b' c' d'
same_exits a a' b b' c c' d d' e f g h =
    ap (λ (x : Bool). exits_with x b c d) e ∙ ap (λ (x : Bool). exits_with a' x c d) f
    ∙ ap (λ (x : Bool). exits_with a' b' x d) g ∙ ap (λ (x : Bool). exits_with a' b' c' x) h

in_turn_assoc : (a b c : Exits) → in_turn (in_turn a b) c ≡ in_turn a (in_turn b c)
in_turn_assoc a b c = same_exits _ _ _ _ _ _ _ _ (ends_in_turn a.end b.end c.end)
    (ways_in_turn a.by_return a.end b.by_return b.end c.by_return)
    (ways_in_turn a.by_break a.end b.by_break b.end c.by_break)
    (ways_in_turn a.by_continue a.end b.by_continue b.end c.by_continue)

pub exits_step : (e0 e1 next : Exits) (t : Term) (ts : List Term) (all : Exits)
    → in_turn e0 (exits_of (terms_tree (t ∷ ts))) ≡ all → next ≡ exits_in (term_view t) → e1 ≡ in_turn e0 next
    → in_turn e1 (exits_of (terms_tree ts)) ≡ all
exits_step e0 e1 next t ts all h is later =
    ap (λ (e : Exits). in_turn e (exits_of (terms_tree ts))) (later ∙ ap (in_turn e0) is)
    ∙ in_turn_assoc e0 (exits_in (term_view t)) (exits_of (terms_tree ts)) ∙ h
