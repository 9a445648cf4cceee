-- Ways by number.
use Rattle.std.proofs.Common.{◌≡◌, ℕ, zero, suc, ◌+◌, ◌<◌, ◌≤◌, List, [], ◌∷◌, ◌++◌, map, reverse, length, Option, Some, None, IfSome, MatchOption, slice_get, slice_index_or, Bor, refl, sym, ap, subst, ◌∙◌, arith, length-append, append_assoc, append-nil}
use mathlib.Core.List.{reverse-cons}
use Rattle.std.proofs.lemmas.List.{get_or_append_left, get_or_at, get_or_past, map_push, reverse-append}
use Rattle.std.proofs.lemmas.Option.{none-some, same_Some, slice_get_past, slice_get-get_or}
use Rattle.std.specs.Option.{option_copied}
use Rattle.std.specs.Slice.{IsItemAt}
use Rattle.acpi_conditions.specs.Entries.{Turn}
use Rattle.acpi_conditions.specs.Turns.{turn_of, way_of}
use Rattle.acpi_conditions.specs.declared.turns.Turn.{Turn as TurnForm}
use Rattle.acpi_conditions.specs.declared.turns.Way.{Way}
use Rattle.acpi_conditions.specs.declared.turns.LastTurn.{LastTurn}
use Rattle.acpi_conditions.specs.steps.Ways.{with_turns, ways_of, AreBehind}

abbrev next_way : List (List Turn) → LastTurn → List Turn
next_way ways l = way_of ways l.before ++ turn_of l.turn ∷ []

-- ---- how many there are

one_longer : (ways : List (List Turn)) (w : List Turn) → length (ways ++ w ∷ []) ≡ suc (length ways)
one_longer ways w = omega (arith, length-append ways (w ∷ []))

more_turns : (ways : List (List Turn)) (ls : List LastTurn) → length (with_turns ways ls) ≡ length ways + length ls
more_turns ways [] = omega arith
more_turns ways (l ∷ ls) = omega (arith, more_turns (ways ++ next_way ways l ∷ []) ls, one_longer ways (next_way ways l))

pub ways_count : (ls : List LastTurn) → length (ways_of ls) ≡ length ls + 1
ways_count ls = omega (arith, more_turns ([] ∷ []) ls)

-- ---- the way of each number

way_stays : (ways : List (List Turn)) (ls : List LastTurn) (n : ℕ) → n < length ways → slice_index_or (with_turns ways ls) n [] ≡ slice_index_or ways n []
way_stays ways [] n h = refl
way_stays ways (l ∷ ls) n h =
    way_stays (ways ++ next_way ways l ∷ []) ls n (omega (arith, one_longer ways (next_way ways l)))
    ∙ get_or_append_left ways (next_way ways l ∷ []) [] n h

abbrev IsTurned : List (List Turn) → ℕ → LastTurn → Type 0
IsTurned ways n l = (l.before.number < n) × (slice_index_or ways n [] ≡ way_of ways l.before ++ turn_of l.turn ∷ [])

turned : (ways : List (List Turn)) (ls : List LastTurn) (count n i : ℕ) (l : LastTurn) → count ≡ length ways → n ≡ count + i → AreBehind count ls → slice_get ls i ≡ Some l → IsTurned (with_turns ways ls) n l
turned ways [] count n i l c k h e = absurd (none-some l e)
turned ways (x ∷ ls) count n zero l c k h e =
    subst (IsTurned (with_turns ways (x ∷ ls)) n) (same_Some x l e) (
      omega (arith, h.0),
      way_stays (ways ++ next_way ways x ∷ []) ls n (omega (arith, one_longer ways (next_way ways x)))
          ∙ get_or_at ways (next_way ways x) [] [] n (omega arith)
          ∙ ap (λ w. w ++ turn_of x.turn ∷ []) (sym (way_stays ways (x ∷ ls) x.before.number (omega (arith, h.0)))),
    )
turned ways (x ∷ ls) count n (suc i) l c k h e =
    turned (ways ++ next_way ways x ∷ []) ls (suc count) n i l (omega (arith, one_longer ways (next_way ways x))) (omega arith) h.1 e

pub way_turned : (ls : List LastTurn) (n i : ℕ) (l : LastTurn) → n ≡ i + 1 → AreBehind 1 ls → slice_get ls i ≡ Some l → IsTurned (ways_of ls) n l
way_turned ls n i l k h e = turned ([] ∷ []) ls 1 n i l refl (omega arith) h e

pub empty_way : (ls : List LastTurn) (n : ℕ) → n ≡ 0 → slice_index_or (ways_of ls) n [] ≡ []
empty_way ls n z = way_stays ([] ∷ []) ls n (omega arith) ∙ ap (λ m. slice_index_or ([] ∷ []) m []) z

pub unknown_way : (ls : List LastTurn) (n : ℕ) → length ls < n → slice_index_or (ways_of ls) n [] ≡ []
unknown_way ls n h = get_or_past (ways_of ls) n [] (omega (arith, ways_count ls))

-- ---- one more

more_ways : (ways : List (List Turn)) (ls : List LastTurn) (l : LastTurn) → with_turns ways (ls ++ l ∷ []) ≡ with_turns ways ls ++ next_way (with_turns ways ls) l ∷ []
more_ways ways [] l = refl
more_ways ways (x ∷ ls) l = more_ways (ways ++ next_way ways x ∷ []) ls l

more_behind : (count : ℕ) (ls : List LastTurn) (l : LastTurn) → AreBehind count ls → l.before.number < count + length ls → AreBehind count (ls ++ l ∷ [])
more_behind count [] l h less = (omega arith, tt)
more_behind count (x ∷ ls) l h less = (h.0, more_behind (suc count) ls l h.1 (omega arith))

pub one_more_behind : (ls new : List LastTurn) (l : LastTurn) → new ≡ ls ++ l ∷ [] → AreBehind 1 ls → l.before.number < length ls + 1 → AreBehind 1 new
one_more_behind ls new l e h less = subst (AreBehind 1) (sym e) (more_behind 1 ls l h (omega arith))

-- what stands for a way: the way itself, where it has a number, and else the empty one
abbrev pub IsKeptWay : List LastTurn → Way → Way → Type 0
IsKeptWay ls before way = (before.number < length ls + 1) × (way_of (ways_of ls) before ≡ way_of (ways_of ls) way)

pub kept_way : (ls : List LastTurn) (before way : Way) → way.number ≤ length ls → before ≡ way → IsKeptWay ls before way
kept_way ls before way h e = subst (λ w. IsKeptWay ls w way) (sym e) (omega arith, refl)

pub empty_kept : (ls : List LastTurn) (before way : Way) → length ls < way.number → before.number ≡ 0 → IsKeptWay ls before way
empty_kept ls before way h z = (omega arith, empty_way ls before.number z ∙ sym (unknown_way ls way.number h))

pub one_more_way : (ls new : List LastTurn) (l : LastTurn) (ways : List (List Turn)) (way : Way) → new ≡ ls ++ l ∷ [] → IsKeptWay ls l.before way → ways_of ls ≡ ways → ways_of new ≡ ways ++ (way_of ways way ++ turn_of l.turn ∷ []) ∷ []
one_more_way ls new l ways way e k v =
    ap ways_of e ∙ more_ways ([] ∷ []) ls l ∙ ap (λ (w : List Turn). ways_of ls ++ (w ++ turn_of l.turn ∷ []) ∷ []) k.1
    ∙ ap (λ (x : List (List Turn)). x ++ (way_of x way ++ turn_of l.turn ∷ []) ∷ []) v

-- ---- the turns of a way, from its end

pub no_turns_yet : (full : List Turn) (ts : List TurnForm) → ts ≡ [] → full ≡ full ++ reverse (map turn_of ts)
no_turns_yet full ts e = sym (append-nil full) ∙ ap (λ x. full ++ reverse (map turn_of x)) (sym e)

pub turns_more : (full w v : List Turn) (ts new : List TurnForm) (t : TurnForm) → full ≡ w ++ reverse (map turn_of ts) → w ≡ v ++ turn_of t ∷ [] → new ≡ ts ++ t ∷ [] → full ≡ v ++ reverse (map turn_of new)
turns_more full w v ts new t a b e =
    a ∙ ap (λ (x : List Turn). x ++ reverse (map turn_of ts)) b ∙ append_assoc v (turn_of t ∷ []) (reverse (map turn_of ts))
    ∙ ap (λ (x : List Turn). v ++ x) (sym (reverse-append (map turn_of ts) (turn_of t ∷ [])) ∙ ap reverse (sym (map_push turn_of ts t)) ∙ ap (λ x. reverse (map turn_of x)) (sym e))

map_reverse : (ts : List TurnForm) → map turn_of (reverse ts) ≡ reverse (map turn_of ts)
map_reverse [] = refl
map_reverse (t ∷ ts) = ap (map turn_of) (reverse-cons t ts) ∙ map_push turn_of (reverse ts) t ∙ ap (λ (x : List Turn). x ++ turn_of t ∷ []) (map_reverse ts) ∙ sym (reverse-cons (turn_of t) (map turn_of ts))

pub turns_all : (full w : List Turn) (ts new : List TurnForm) → full ≡ w ++ reverse (map turn_of ts) → w ≡ [] → new ≡ reverse ts → map turn_of new ≡ full
turns_all full w ts new a b e = ap (map turn_of) e ∙ map_reverse ts ∙ ap (λ (x : List Turn). x ++ reverse (map turn_of ts)) (sym b) ∙ sym a

-- ---- the last turn

none_got : (ls : List LastTurn) (at : ℕ) → slice_get ls at ≡ None → length ls ≤ at
none_got [] at e = omega arith
none_got (l ∷ ls) zero e = absurd (none-some l (sym e))
none_got (l ∷ ls) (suc at) e = omega (arith, none_got ls at e)

abbrev LastTurnIs : List (List Turn) → Way → Option LastTurn → Type 0
LastTurnIs ways way o = MatchOption o (way_of ways way ≡ []) (λ l. way_of ways way ≡ way_of ways l.before ++ turn_of l.turn ∷ [])

pub got_at : {X : Type 0} (xs ls : List X) (at : ℕ) (r : Option (Bor X)) → IsItemAt xs at r → xs ≡ ls → option_copied r ≡ slice_get ls at
got_at xs ls at None h e = sym (slice_get_past xs at h.3) ∙ ap (λ l. slice_get l at) e
got_at xs ls at (Some x) h e = sym (slice_get-get_or xs at x.now h.3.0 ∙ ap Some (sym (h.3.1 x.now))) ∙ ap (λ l. slice_get l at) e

pub no_last_turn : (ls : List LastTurn) (ways : List (List Turn)) (way : Way) (o : Option LastTurn) → ways_of ls ≡ ways → o ≡ None → way.number ≡ 0 → LastTurnIs ways way o
no_last_turn ls ways way o v e z = subst (λ (w : List (List Turn)). LastTurnIs w way o) v (subst (LastTurnIs (ways_of ls) way) (sym e) (empty_way ls way.number z))

pub last_turn_got : (ls : List LastTurn) (ways : List (List Turn)) (way : Way) (at : ℕ) (o : Option LastTurn) → ways_of ls ≡ ways → AreBehind 1 ls → way.number ≡ at + 1 → o ≡ slice_get ls at
    → LastTurnIs ways way o × IfSome o (λ l. l.before.number < way.number)
last_turn_got ls ways way at o v h n e = subst (λ (w : List (List Turn)). LastTurnIs w way o × IfSome o (λ l. l.before.number < way.number)) v (by o e)
  where
    by : (x : Option LastTurn) → x ≡ slice_get ls at → LastTurnIs (ways_of ls) way x × IfSome x (λ l. l.before.number < way.number)
    by None e = (unknown_way ls way.number (omega (arith, none_got ls at (sym e))), tt)
    by (Some l) e = let t = way_turned ls way.number at l n h (sym e) in (t.1, t.0)
