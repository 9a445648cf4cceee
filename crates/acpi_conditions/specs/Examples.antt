-- The survey of small tables (ACPI 6.5, 5.3, 19.6 and 20.2.5).
use Rattle.std.specs.Prelude.{◌≡◌, ℕ, true, false, List, [], ◌∷◌, map, codes}
use Rattle.acpi_name.specs.Names.{Segment, NameParts}
use Rattle.acpi_conditions.specs.Nodes.{Place, Term, returns, breaks, Nodes, no_nodes, declares, opens, branch, loop, stop}
use Rattle.acpi_conditions.specs.Entries.{Path, Turn, then_branch, else_branch, in_round, within, past, Asks, Entry, taken, Refusal}
use Rattle.acpi_conditions.specs.Known.{Known, candidates, is_certain_name}
use Rattle.acpi_conditions.specs.Links.{seen_from}
use Rattle.acpi_conditions.specs.Survey.{table_survey}
use Rattle.acpi_conditions.specs.Walk.{Walk, first_walk, predefine, declare, enter_other, lost_if, leave}
use Rattle.acpi_conditions.specs.Listings.{nothing_asked}

abbrev pub plain : List ℕ → NameParts
plain g = record { rooted = false; parents = 0; segments = g ∷ [] }

abbrev pub rooted : List Segment → NameParts
rooted p = record { rooted = true; parents = 0; segments = p }

-- a Name and a Device of one segment, and a term with a name in an operand
abbrev pub leaf : Place → List ℕ → Term
leaf place g = record { place = place; name = plain g; is_scope = false; needs = [] }

abbrev pub device : Place → List ℕ → Term
device place g = record { place = place; name = plain g; is_scope = true; needs = [] }

abbrev pub needing : Place → List ℕ → List ℕ → Term
needing place g n = record { place = place; name = plain g; is_scope = false; needs = plain n ∷ [] }

abbrev pub leaf_at : Place → List Segment → Term
leaf_at place p = record { place = place; name = rooted p; is_scope = false; needs = [] }

-- what is known where the root alone is there
abbrev pub root_entry : Entry
root_entry =
    record {
      term = record { place = 0; name = rooted []; is_scope = true; needs = [] };
      scope = [];
      path = [];
      way = [];
      asks = nothing_asked;
    }

abbrev pub at_first : Known
at_first =
    record {
      entries = root_entry ∷ [];
      certain = record { path = []; is_scope = true } ∷ [];
      in_loop = false;
    }

-- a path with its condition
abbrev pub Line : Type 0
Line = Path × List Turn × Asks

abbrev pub lines : Nodes → List Line
lines ns = map (λ e. (e.path, e.way, e.asks)) (table_survey at_first ns).entries

abbrev pub refusals : Nodes → List Refusal
refusals ns = (table_survey at_first ns).refused

abbrev pub asks_no : Asks
asks_no = record { has = false; no = true; needs = [] }

abbrev pub asks_has_no : Asks
asks_has_no = record { has = true; no = true; needs = [] }

abbrev pub asks_has : Asks
asks_has = record { has = true; no = false; needs = [] }

-- If (1) { Device (DEV0) { Name (_ADR) } } Else { Device (DEV0) { Name (_UID) } }
abbrev pub both_branches : Nodes → Nodes
both_branches rest = branch 1
    (declares (device 2 (codes "DEV0"))
    (declares (leaf 3 (codes "_ADR")) no_nodes no_nodes) no_nodes)
    (declares (device 4 (codes "DEV0"))
    (declares (leaf 5 (codes "_UID")) no_nodes no_nodes) no_nodes) rest

abbrev pub InBothBranches : Type 0
InBothBranches = lines (both_branches no_nodes) ≡
    (codes "DEV0" ∷ [], then_branch 1 ∷ [], nothing_asked)
    ∷ (codes "DEV0" ∷ codes "_ADR" ∷ [], then_branch 1 ∷ [], nothing_asked)
    ∷ (codes "DEV0" ∷ [], else_branch 1 ∷ [], nothing_asked)
    ∷ (codes "DEV0" ∷ codes "_UID" ∷ [], else_branch 1 ∷ [], nothing_asked) ∷ []

-- .. and Scope (DEV0) { Name (BBBB) } behind it: the Scope at 6 asks that \DEV0 be there
abbrev pub ScopeBehindBoth : Type 0
ScopeBehindBoth = lines
    (both_branches
    (opens 6 (plain (codes "DEV0")) (declares (leaf 7 (codes "BBBB")) no_nodes no_nodes) no_nodes))
    ≡
    (codes "DEV0" ∷ [], then_branch 1 ∷ [], nothing_asked)
    ∷ (codes "DEV0" ∷ codes "_ADR" ∷ [], then_branch 1 ∷ [], nothing_asked)
    ∷ (codes "DEV0" ∷ [], else_branch 1 ∷ [], nothing_asked)
    ∷ (codes "DEV0" ∷ codes "_UID" ∷ [], else_branch 1 ∷ [], nothing_asked)
    ∷ (codes "DEV0" ∷ codes "BBBB" ∷ [], within 6 ∷ [], nothing_asked) ∷ []

-- If (1) { Name (BBBB) } Name (BBBB) Name (BBBB): the second asks that \BBBB be free, and the third is refused
abbrev pub name_thrice : Nodes
name_thrice = branch 1 (declares (leaf 2 (codes "BBBB")) no_nodes no_nodes) no_nodes
    (declares (leaf 3 (codes "BBBB")) no_nodes (declares (leaf 4 (codes "BBBB")) no_nodes no_nodes))

abbrev pub NameThrice : Type 0
NameThrice = lines name_thrice
    ≡ (codes "BBBB" ∷ [], then_branch 1 ∷ [], nothing_asked) ∷ (codes "BBBB" ∷ [], [], asks_no) ∷ []

abbrev pub ThirdIsRefused : Type 0
ThirdIsRefused = refusals name_thrice ≡ record { place = 4; why = taken (codes "BBBB" ∷ []) } ∷ []

-- OperationRegion (REG0, .., MTH1, ..) Method (MTH1) Name (BBBB): the region asks that MTH1 be found
abbrev pub NeedsLater : Type 0
NeedsLater = lines
    (declares (needing 1 (codes "REG0") (codes "MTH1")) no_nodes
    (declares (leaf 2 (codes "MTH1")) no_nodes
    (declares (leaf 3 (codes "BBBB")) no_nodes no_nodes))) ≡
    (codes "REG0" ∷ [], [], record { has = false; no = false; needs = plain (codes "MTH1") ∷ [] })
    ∷ (codes "MTH1" ∷ [], [], nothing_asked)
    ∷ (codes "BBBB" ∷ [], [], nothing_asked) ∷ []

-- Method (MTH1) Alias (MTH1, ALI1): what is certain isn't asked
abbrev pub NeedsEarlier : Type 0
NeedsEarlier = lines
    (declares (leaf 1 (codes "MTH1")) no_nodes
    (declares (needing 2 (codes "ALI1") (codes "MTH1")) no_nodes no_nodes)) ≡
    (codes "MTH1" ∷ [], [], nothing_asked) ∷ (codes "ALI1" ∷ [], [], nothing_asked) ∷ []

-- While (1) { Name (AAAA) Break Name (CCCC) } Name (BBBB): in a While each term asks that its path be free
abbrev pub BreakInWhile : Type 0
BreakInWhile = lines
    (loop 1 (declares (leaf 2 (codes "AAAA")) no_nodes
    (stop 3 breaks (declares (leaf 4 (codes "CCCC")) no_nodes no_nodes)))
    (declares (leaf 5 (codes "BBBB")) no_nodes no_nodes)) ≡
    (codes "AAAA" ∷ [], in_round 1 ∷ [], asks_no)
    ∷ (codes "CCCC" ∷ [], in_round 1 ∷ past 3 ∷ [], asks_no)
    ∷ (codes "BBBB" ∷ [], [], nothing_asked) ∷ []

-- If (1) { Return } Name (AAAA): past the stop
abbrev pub ReturnInIf : Type 0
ReturnInIf = lines
    (branch 1 (stop 2 returns no_nodes) no_nodes
    (declares (leaf 3 (codes "AAAA")) no_nodes no_nodes))
    ≡ (codes "AAAA" ∷ [], past 2 ∷ [], nothing_asked) ∷ []

-- ---- what is asked at two moments, and in two rounds

-- If (1) { Device (DEVP) } Name (\DEVP.NNNN) If (4) { Device (DEVP) } Scope (DEVP) { Name (NNNN) }: the Scope may find
-- what was declared behind the first NNNN, so the second isn't refused
abbrev pub MadeBetween : Type 0
MadeBetween = lines (branch 1 (declares (device 2 (codes "DEVP")) no_nodes no_nodes) no_nodes
    (declares (leaf_at 3 (codes "DEVP" ∷ codes "NNNN" ∷ [])) no_nodes
    (branch 4 (declares (device 5 (codes "DEVP")) no_nodes no_nodes) no_nodes
    (opens 6 (plain (codes "DEVP"))
    (declares (leaf 7 (codes "NNNN")) no_nodes no_nodes) no_nodes)))) ≡
    (codes "DEVP" ∷ [], then_branch 1 ∷ [], nothing_asked)
    ∷ (codes "DEVP" ∷ codes "NNNN" ∷ [], [], asks_has)
    ∷ (codes "DEVP" ∷ [], then_branch 4 ∷ [], asks_no)
    ∷ (codes "DEVP" ∷ codes "NNNN" ∷ [], within 6 ∷ [], asks_no) ∷ []

-- While (1) { Name (\DEVD.NNNN) Device (DEVD) }: a second round finds \DEVD
abbrev pub SecondRound : Type 0
SecondRound = lines
    (loop 1 (declares (leaf_at 2 (codes "DEVD" ∷ codes "NNNN" ∷ [])) no_nodes
    (declares (device 3 (codes "DEVD")) no_nodes no_nodes)) no_nodes) ≡
    (codes "DEVD" ∷ codes "NNNN" ∷ [], in_round 1 ∷ [], asks_has_no)
    ∷ (codes "DEVD" ∷ [], in_round 1 ∷ [], asks_no) ∷ []

-- While (1) { If (2) { Device (DEVD) } Else { Name (DEVD) } }: two rounds may take both branches
abbrev pub BranchesInWhile : Type 0
BranchesInWhile = lines
    (loop 1 (branch 2 (declares (device 3 (codes "DEVD")) no_nodes no_nodes)
    (declares (leaf 4 (codes "DEVD")) no_nodes no_nodes) no_nodes) no_nodes) ≡
    (codes "DEVD" ∷ [], in_round 1 ∷ then_branch 2 ∷ [], asks_no)
    ∷ (codes "DEVD" ∷ [], in_round 1 ∷ else_branch 2 ∷ [], asks_no) ∷ []

-- ---- an Else that has no If, or whose If can't be read

abbrev pub walk_at_first : Walk
walk_at_first =
    predefine (record { place = 0; name = rooted []; is_scope = true; needs = [] }) [] first_walk

-- in the Else at 2: Name (AAAA)
abbrev pub ways_in_else : Walk → List (Path × List Turn)
ways_in_else w =
    map (λ e. (e.path, e.way)) (leave (declare (leaf 3 (codes "AAAA")) (enter_other 2 w))).entries

-- .. with no If before it: as that of an If at 2
abbrev pub ElseAlone : Type 0
ElseAlone = ways_in_else walk_at_first ≡ ([], []) ∷ (codes "AAAA" ∷ [], else_branch 2 ∷ []) ∷ []

-- .. behind the If at 1, whose test can't be read
abbrev pub ElseOfLostIf : Type 0
ElseOfLostIf =
    ways_in_else (lost_if 1 walk_at_first) ≡ ([], []) ∷ (codes "AAAA" ∷ [], else_branch 1 ∷ []) ∷ []

-- ---- links

-- If (1) { OperationRegion (REG0) Field (REG0) { FLD0 } } Else { OperationRegion (REG0) }:
-- from the field only the region of its own branch is seen, and for certain
abbrev pub field_in_branch : Nodes
field_in_branch = branch 1
    (declares (leaf 2 (codes "REG0")) no_nodes (declares (leaf 3 (codes "FLD0")) no_nodes no_nodes))
    (declares (leaf 4 (codes "REG0")) no_nodes no_nodes) no_nodes

abbrev pub field_entry : Entry
field_entry =
    record {
      term = leaf 3 (codes "FLD0");
      scope = [];
      path = codes "FLD0" ∷ [];
      way = then_branch 1 ∷ [];
      asks = nothing_asked;
    }

abbrev pub seen_by_field : Known
seen_by_field = seen_from at_first (table_survey at_first field_in_branch).entries field_entry

abbrev pub FieldSeesItsBranch : Type 0
FieldSeesItsBranch = (candidates seen_by_field [] (plain (codes "REG0")) ≡ (codes "REG0" ∷ []) ∷ [])
    × (is_certain_name seen_by_field [] (plain (codes "REG0")) ≡ true)
    × (map (λ e. e.term.place) seen_by_field.entries ≡ 0 ∷ 2 ∷ 3 ∷ [])

-- While (1) { If (2) { Name (AAAA) } Else { Name (BBBB) } }: from AAAA both are seen, since another round may take the
-- other branch
abbrev pub field_in_loop : Nodes
field_in_loop = loop 1
    (branch 2 (declares (leaf 3 (codes "AAAA")) no_nodes no_nodes)
    (declares (leaf 4 (codes "BBBB")) no_nodes no_nodes) no_nodes) no_nodes

abbrev pub first_in_loop : Entry
first_in_loop =
    record {
      term = leaf 3 (codes "AAAA");
      scope = [];
      path = codes "AAAA" ∷ [];
      way = in_round 1 ∷ then_branch 2 ∷ [];
      asks = asks_no;
    }

abbrev pub RoundsSeeBothBranches : Type 0
RoundsSeeBothBranches = map (λ e. e.term.place)
    (seen_from at_first (table_survey at_first field_in_loop).entries first_in_loop).entries
    ≡ 0 ∷ 3 ∷ 4 ∷ []
