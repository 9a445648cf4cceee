-- Ways and other turns: whether a way is a part of them, and whether both go into the two branches of one If.
use Rattle.std.proofs.Common.{◌≡◌, ℕ, suc, ◌+◌, ◌≤◌, ◌&&◌, ◌||◌, Bool, true, false, cond, not, ltb, List, [], ◌∷◌, ◌++◌, map, length, take, Option, Some, None, refl, sym, ap, ap₂, ◌∙◌, arith, append_assoc, append-nil}
use Rattle.std.specs.List.{list_any, position_or_len}
use Rattle.std.proofs.lemmas.List.Folds.{list_all-append}
use Rattle.std.proofs.lemmas.Bool.Decides.{nat_tests}
use Rattle.std.proofs.lemmas.List.{take_all}
use Rattle.std.proofs.lemmas.Option.{none-some, cond_some}
use Rattle.std.proofs.Math.Bool.{and-true, and-false}
use Rattle.acpi_conditions.specs.Entries.{Turn, then_branch, else_branch, in_round, within, past}
use Rattle.acpi_conditions.specs.Links.{is_same_turn, is_opposite, is_round, outside_loops, is_part_of, are_exclusive}
use Rattle.acpi_conditions.specs.Turns.{turn_of}
use Rattle.acpi_conditions.specs.steps.Branches.{is_branch}
use Rattle.acpi_conditions.specs.declared.turns.Turn.{Turn as TurnForm}

-- ---- turns by the code's

pub any_map : {X Y : Type 0} (f : X → Y) (test : Y → Bool) (xs : List X) → list_any test (map f xs) ≡ list_any (λ x. test (f x)) xs
any_map f test [] = refl
any_map f test (x ∷ xs) = ap (λ b. test (f x) || b) (any_map f test xs)

-- ---- a part

pub part_more : (w v : List Turn) (us : List TurnForm) (t : TurnForm) → w ≡ v ++ turn_of t ∷ [] → list_any (λ u. is_same_turn (turn_of t) (turn_of u)) us ≡ true → is_part_of w (map turn_of us) ≡ is_part_of v (map turn_of us)
part_more w v us t e is =
    ap (λ (x : List Turn). is_part_of x (map turn_of us)) e ∙ list_all-append (λ x. list_any (is_same_turn x) (map turn_of us)) v (turn_of t ∷ [])
    ∙ ap (λ b. is_part_of v (map turn_of us) && (b && true)) (any_map turn_of (is_same_turn (turn_of t)) us ∙ is) ∙ and-true (is_part_of v (map turn_of us))

pub no_part : (w v : List Turn) (us : List TurnForm) (t : TurnForm) → w ≡ v ++ turn_of t ∷ [] → list_any (λ u. is_same_turn (turn_of t) (turn_of u)) us ≡ false → is_part_of w (map turn_of us) ≡ false
no_part w v us t e is =
    ap (λ (x : List Turn). is_part_of x (map turn_of us)) e ∙ list_all-append (λ x. list_any (is_same_turn x) (map turn_of us)) v (turn_of t ∷ [])
    ∙ ap (λ b. is_part_of v (map turn_of us) && (b && true)) (any_map turn_of (is_same_turn (turn_of t)) us ∙ is) ∙ and-false (is_part_of v (map turn_of us))

-- ---- the turns outside of Whiles

one_add : (n : ℕ) → 1 + n ≡ suc n
one_add n = omega arith

outside_up_to : (ts : List TurnForm) → map turn_of (take (position_or_len (λ t. is_round (turn_of t)) ts) ts) ≡ outside_loops (map turn_of ts)
outside_up_to [] = refl
outside_up_to (t ∷ ts) = by (is_round (turn_of t)) (outside_up_to ts)
  where
    by : (b : Bool) → map turn_of (take (position_or_len (λ t. is_round (turn_of t)) ts) ts) ≡ outside_loops (map turn_of ts)
        → map turn_of (take (cond (not b) (1 + position_or_len (λ t. is_round (turn_of t)) ts) 0) (t ∷ ts)) ≡ cond b [] (turn_of t ∷ outside_loops (map turn_of ts))
    by true ih = refl
    by false ih = ap (λ n. map turn_of (take n (t ∷ ts))) (one_add (position_or_len (λ t. is_round (turn_of t)) ts)) ∙ ap (λ (x : List Turn). turn_of t ∷ x) ih

abbrev IsFirstRound : List TurnForm → Option ℕ → Type 0
IsFirstRound ts r = r ≡ cond (ltb (position_or_len (λ t. is_round (turn_of t)) ts) (length ts)) (Some (position_or_len (λ t. is_round (turn_of t)) ts)) None

pub outside_some : (ts : List TurnForm) (r : Option ℕ) (n : ℕ) → IsFirstRound ts r → r ≡ Some n → map turn_of (take n ts) ≡ outside_loops (map turn_of ts)
outside_some ts r n is e = by (cond_some (ltb (position_or_len (λ t. is_round (turn_of t)) ts) (length ts)) (position_or_len (λ t. is_round (turn_of t)) ts) n (sym is ∙ e)).1
  where
    by : position_or_len (λ t. is_round (turn_of t)) ts ≡ n → map turn_of (take n ts) ≡ outside_loops (map turn_of ts)
    by m = ap (λ k. map turn_of (take k ts)) (sym m) ∙ outside_up_to ts

pub outside_none : (ts : List TurnForm) (r : Option ℕ) → IsFirstRound ts r → r ≡ None → map turn_of ts ≡ outside_loops (map turn_of ts)
outside_none ts r is e = ap (map turn_of) (sym (take_all (position_or_len (λ t. is_round (turn_of t)) ts) ts (by (ltb (position_or_len (λ t. is_round (turn_of t)) ts) (length ts)) refl))) ∙ outside_up_to ts
  where
    by : (b : Bool) → ltb (position_or_len (λ t. is_round (turn_of t)) ts) (length ts) ≡ b → length ts ≤ position_or_len (λ t. is_round (turn_of t)) ts
    by true u = absurd (none-some (position_or_len (λ t. is_round (turn_of t)) ts) (sym e ∙ is ∙ ap (λ c. cond c (Some (position_or_len (λ t. is_round (turn_of t)) ts)) None) u))
    by false u = grind (arith, nat_tests)

-- ---- exclusive ways

-- Up to here from the end of a way: the turns behind say whether it is exclusive with these.
abbrev pub IsSoFarExclusive : List Turn → List Turn → List Turn → Bool → Type 0
IsSoFarExclusive full w u b = (behind : List Turn) × (full ≡ w ++ behind) × (b ≡ list_any (λ t. list_any (is_opposite t) u) (outside_loops behind))

pub nothing_behind : (full u : List Turn) → IsSoFarExclusive full full u false
nothing_behind full u = ([], sym (append-nil full), refl)

pub exclusive_more : (full w v u : List Turn) (us : List TurnForm) (t : TurnForm) (b now : Bool) → map turn_of us ≡ u → IsSoFarExclusive full w u b → w ≡ v ++ turn_of t ∷ []
    → now ≡ (not (is_round (turn_of t)) && (list_any (λ x. is_opposite (turn_of t) (turn_of x)) us || b)) → IsSoFarExclusive full v u now
exclusive_more full w v u us t b now m h e is = (
  turn_of t ∷ h.0,
  h.1 ∙ ap (λ (x : List Turn). x ++ h.0) e ∙ append_assoc v (turn_of t ∷ []) h.0,
  is ∙ ap₂ (λ c d. not (is_round (turn_of t)) && (c || d)) (sym (any_map turn_of (is_opposite (turn_of t)) us) ∙ ap (list_any (is_opposite (turn_of t))) m) h.2 ∙ by (is_round (turn_of t)),
)
  where
    by : (r : Bool) → (not r && (list_any (is_opposite (turn_of t)) u || list_any (λ t. list_any (is_opposite t) u) (outside_loops h.0)))
        ≡ list_any (λ t. list_any (is_opposite t) u) (cond r [] (turn_of t ∷ outside_loops h.0))
    by true = refl
    by false = refl

pub exclusive_all : (full w us : List Turn) (b : Bool) → IsSoFarExclusive full w (outside_loops us) b → w ≡ [] → b ≡ are_exclusive full us
exclusive_all full w us b h e = h.2 ∙ ap (λ (x : List Turn). are_exclusive x us) (sym (h.1 ∙ ap (λ (x : List Turn). x ++ h.0) e))

-- ---- the other branch

not_opposite : (t u : Turn) → is_branch t ≡ false → is_opposite t u ≡ false
not_opposite (then_branch p) u e = cc
not_opposite (else_branch p) u e = cc
not_opposite (in_round p) u e = refl
not_opposite (within p) u e = refl
not_opposite (past p) u e = refl

pub no_opposite : (t : Turn) (ts : List TurnForm) → is_branch t ≡ false → list_any (λ x. is_opposite t (turn_of x)) ts ≡ false
no_opposite t [] e = refl
no_opposite t (x ∷ xs) e = ap (λ b. b || list_any (λ x. is_opposite t (turn_of x)) xs) (not_opposite t (turn_of x) e) ∙ no_opposite t xs e
