-- What is certain stays so, and no entry declares it.
use Rattle.std.proofs.Common.{◌≡◌, Bool, true, false, cond, List, [], ◌∷◌, ◌++◌, ◌⊎◌, inl, inr, Option, Some, None, refl, sym, ap, subst, ◌∙◌, Result, Ok, Err}
use Rattle.std.specs.List.{flat_map}
use Rattle.std.proofs.lemmas.Bool.{false_from_ne_true}
use Rattle.acpi_name.specs.Names.{Segment, NameParts}
use Rattle.acpi_name.specs.Paths.{place_of, parent_of}
use Rattle.acpi_space.specs.Lookups.{is_same_path}
use Rattle.acpi_space.specs.Laws.{Among}
use Rattle.acpi_space.proofs.Elements.{among_right, among_append, one_some}
use Rattle.acpi_conditions.specs.Nodes.{Place, Term, Nodes, no_nodes, declares, opens, branch, loop, stop}
use Rattle.acpi_conditions.specs.Entries.{Path, then_branch, else_branch, in_round, asks_nothing, Entry, Why, no_parent, not_a_scope, taken}
use Rattle.acpi_conditions.specs.Known.{Certain, Known, is_certain, is_certain_scope, is_possible, is_possible_scope, declared_in, declared_at, settled, opened_at}
use Rattle.acpi_conditions.specs.Survey.{Around, turning, Survey, Surveying, behind, passing, followed_by, entry_at, inside_of, known_inside, declaring_as, declaring, inside_scope, known_in_scope, opening_as, opening, branching, known_in_loop, looping, stopping, lasting, behind_table, table_survey, surveys, all_entries, at_root, survey}
use Rattle.acpi_conditions.proofs.Basics.{some_any, any_some, path_itself, same_path}
use Rattle.acpi_conditions.proofs.Declaring.{declared_in_is}

-- something is certain at the path
abbrev IsThere : List Certain → Path → Type 0
IsThere cs p = (c : Certain) × Among cs c × (c.path ≡ p)

there_more : (bs cs : List Certain) (p : Path) → IsThere cs p → IsThere (bs ++ cs) p
there_more bs cs p c = (c.0, among_right bs cs c.0 c.1, c.2)

there_certain : (k : Known) (p : Path) → IsThere k.certain p → is_certain k p ≡ true
there_certain k p c = some_any (λ (c : Certain). is_same_path c.path p) k.certain c.0 c.1 (path_itself c.0.path p c.2)

certain_there : (k : Known) (p : Path) → is_certain k p ≡ true → IsThere k.certain p
certain_there k p is = let c = any_some (λ (c : Certain). is_same_path c.path p) k.certain is in (c.0, c.1, same_path c.0.path p c.2)

-- ---- what is declared isn't certain

below_free : (k : Known) (q p r : Path) (a b c : Bool) → cond a (cond b (cond c (Err (taken p)) (Ok p)) (Err (not_a_scope q))) (Err (no_parent q)) ≡ Ok r → c ≡ false
below_free k q p r true true true e = cc
below_free k q p r true true false e = refl
below_free k q p r true false c e = cc
below_free k q p r false b c e = cc

declared_in_free : (k : Known) (s : Path) (gs : List Segment) (place : Option Path) (p : Path) → declared_in k s gs place ≡ Ok p → is_certain k p ≡ false
declared_in_free k s [] place p e = cc
declared_in_free k s (g ∷ gs) None p e = cc
declared_in_free k s (g ∷ gs) (Some q) p e =
    let free : is_certain k q ≡ false = below_free k (parent_of q) q p (is_possible k (parent_of q)) (is_possible_scope k (parent_of q)) (is_certain k q) e in
    let same : q ≡ p = one_some q p (declared_in_is k s (g ∷ gs) (Some q) p e).1 in
    subst (λ (p : Path). is_certain k p ≡ false) same free

declared_free : (k : Known) (s : Path) (n : NameParts) (p : Path) → declared_at k s n ≡ Ok p → is_certain k p ≡ false
declared_free k s n p e = declared_in_free k s n.segments (place_of s n) p e

-- ---- nodes

-- what is certain stays certain, and no entry is at its path
record Keeps (p : Path) (x : Survey) : Type 0 where
  pub still : IsThere x.certain p
  pub new : (e : Entry) → Among x.entries e → e.path ≡ p → ⊥

abbrev IsKeeping : Surveying → Type 0
IsKeeping x = (a : Around) (k : Known) (p : Path) → IsThere k.certain p → Keeps p (x a k)

module _ (p : Path) (x y : Survey) (before : Keeps p x) (after : Keeps p y) where
  both_new : (e : Entry) → Among x.entries e ⊎ Among y.entries e → e.path ≡ p → ⊥
  both_new e (inl m) = before.new e m
  both_new e (inr m) = after.new e m

  both_are_new : (e : Entry) → Among (x.entries ++ y.entries) e → e.path ≡ p → ⊥
  both_are_new e m = both_new e (among_append x.entries y.entries e m)

keeping_followed : (here rest : Surveying) → IsKeeping here → IsKeeping rest → IsKeeping (followed_by here rest)
keeping_followed here rest kh kr a k p c =
    let x : Survey = here a k in
    let y : Survey = rest (passing a x) (behind k x) in
    let before : Keeps p x = kh a k p c in
    let after : Keeps p y = kr (passing a x) (behind k x) p before.still in
    record { still = after.still; new = both_are_new p x y before after }

module _ (k : Known) (own : Entry) (x : Survey) (p : Path) (c : IsThere k.certain p) (under : Keeps p x) (free : is_certain k own.path ≡ false) where
  still_inside : (b : Bool) → IsThere (cond b x.certain (settled own ++ k.certain)) p
  still_inside true = under.still
  still_inside false = there_more (settled own) k.certain p c

  own_new : own.path ≡ p → ⊥
  own_new at = by (there_certain k own.path (c.0, c.1, c.2 ∙ sym at)) free
    where
      by : is_certain k own.path ≡ true → is_certain k own.path ≡ false → ⊥
      by is isnt = cc

  new_inside : (e : Entry) → Among (own ∷ x.entries) e → e.path ≡ p → ⊥
  new_inside e (inr m) at = under.new e m at
  new_inside e (inl same) at = own_new (ap (λ (e : Entry). e.path) same ∙ at)

keeping_declaring : (t : Term) (inside : Surveying) → IsKeeping inside → IsKeeping (declaring t inside)
keeping_declaring t inside ki a k p c = by (declared_at k a.scope t.name) refl
  where
    by : (r : Result Path Why) → declared_at k a.scope t.name ≡ r → Keeps p (declaring_as t inside a k r)
    by (Err why) is = record { still = c; new = λ e m. absurd m }
    by (Ok q) is =
        let own : Entry = entry_at a k t q in
        let x : Survey = inside (inside_of own) (known_inside k own) in
        let under : Keeps p x = ki (inside_of own) (known_inside k own) p (c.0, inr c.1, c.2) in
        let free : is_certain k q ≡ false = declared_free k a.scope t.name q is in
        record { still = still_inside k own x p c under free (asks_nothing own.asks); new = new_inside k own x p c under free }

still_opened : (k : Known) (p : Path) (x : Survey) → IsThere k.certain p → Keeps p x → (b : Bool) → IsThere (cond b x.certain k.certain) p
still_opened k p x c under true = under.still
still_opened k p x c under false = c

keeping_opening : (place : Place) (n : NameParts) (inside : Surveying) → IsKeeping inside → IsKeeping (opening place n inside)
keeping_opening place n inside ki a k p c = by (opened_at k a.scope n)
  where
    by : (r : Result Path Why) → Keeps p (opening_as place inside a k r)
    by (Err why) = record { still = c; new = λ e m. absurd m }
    by (Ok q) =
        let x : Survey = inside (inside_scope place a k q) (known_in_scope k q) in
        let under : Keeps p x = ki (inside_scope place a k q) (known_in_scope k q) p (c.0, inr c.1, c.2) in
        record { still = still_opened k p x c under (is_certain_scope k q); new = under.new }

keeping_branching : (place : Place) (first other : Surveying) → IsKeeping first → IsKeeping other → IsKeeping (branching place first other)
keeping_branching place first other kf ko a k p c =
    let x : Survey = first (turning a (then_branch place)) k in
    let y : Survey = other (turning a (else_branch place)) k in
    record { still = c; new = both_are_new p x y (kf (turning a (then_branch place)) k p c) (ko (turning a (else_branch place)) k p c) }

keeping_nodes : (ns : Nodes) → IsKeeping (survey ns)
keeping_nodes no_nodes = λ a k p c. record { still = c; new = λ e m. absurd m }
keeping_nodes (declares t inside rest) = keeping_followed (declaring t (survey inside)) (survey rest) (keeping_declaring t (survey inside) (keeping_nodes inside)) (keeping_nodes rest)
keeping_nodes (opens place n inside rest) = keeping_followed (opening place n (survey inside)) (survey rest) (keeping_opening place n (survey inside) (keeping_nodes inside)) (keeping_nodes rest)
keeping_nodes (branch place first other rest) =
    keeping_followed (branching place (survey first) (survey other)) (survey rest) (keeping_branching place (survey first) (survey other) (keeping_nodes first) (keeping_nodes other)) (keeping_nodes rest)
keeping_nodes (loop place body rest) =
    keeping_followed (looping place (survey body)) (survey rest)
    (λ a k p c. record { still = c; new = (keeping_nodes body (turning a (in_round place)) (known_in_loop k) p c).new }) (keeping_nodes rest)
keeping_nodes (stop place kind rest) = keeping_followed (stopping place kind) (survey rest) (λ a k p c. record { still = c; new = λ e m. absurd m }) (keeping_nodes rest)

keeping_tables : (k : Known) (ts : List Nodes) (p : Path) → IsThere k.certain p → (e : Entry) → Among (all_entries (surveys k ts)) e → e.path ≡ p → ⊥
keeping_tables k [] p c e m = absurd m
keeping_tables k (t ∷ ts) p c e m =
    let x : Survey = table_survey k t in
    by (among_append x.entries (all_entries (surveys (behind_table k x) ts)) e m) (keeping_tables (behind_table k x) ts p (there_more (flat_map lasting x.entries) k.certain p c) e)
  where
    by : Among (table_survey k t).entries e ⊎ Among (all_entries (surveys (behind_table k (table_survey k t)) ts)) e
        → (Among (all_entries (surveys (behind_table k (table_survey k t)) ts)) e → e.path ≡ p → ⊥) → e.path ≡ p → ⊥
    by (inl m) more = (keeping_nodes t at_root k p c).new e m
    by (inr m) more = more m

pub certain_is_not_declared : (k : Known) (ts : List Nodes) (e : Entry) → Among (all_entries (surveys k ts)) e → is_certain k e.path ≡ false
certain_is_not_declared k ts e m = false_from_ne_true (is_certain k e.path) (λ is. keeping_tables k ts e.path (certain_there k e.path is) e m refl)
