-- What is known, behind all tables, where control came to an entry's term: the links of the entry, and the names in its
-- body, are searched over this (ACPI 6.5, 20.2.5.2).
use Rattle.std.specs.Prelude.{Bool, true, false, not, nat_eq, List, ◌++◌, map}
use Rattle.acpi_name.specs.Names.{NameParts}
use Rattle.acpi_space.specs.Search.{skipped}
use Rattle.std.specs.List.{filter, flat_map, list_any, list_all}
use Rattle.acpi_conditions.specs.Entries.{Path, Turn, then_branch, else_branch, in_round, within, past, Entry}
use Rattle.acpi_conditions.specs.Known.{Known, candidates, settled}

abbrev pub is_same_turn : Turn → Turn → Bool
is_same_turn (then_branch p) (then_branch q) = nat_eq p q
is_same_turn (else_branch p) (else_branch q) = nat_eq p q
is_same_turn (in_round p) (in_round q) = nat_eq p q
is_same_turn (within p) (within q) = nat_eq p q
is_same_turn (past p) (past q) = nat_eq p q
is_same_turn _ _ = false

-- the two branches of one If
abbrev pub is_opposite : Turn → Turn → Bool
is_opposite (then_branch p) (else_branch q) = nat_eq p q
is_opposite (else_branch p) (then_branch q) = nat_eq p q
is_opposite _ _ = false

abbrev pub is_round : Turn → Bool
is_round (in_round place) = true
is_round _ = false

-- the turns outside of Whiles: those before the first round
abbrev pub outside_loops : List Turn → List Turn
outside_loops w = skipped is_round w

-- one of the ways goes into a branch of an If that stands in no While, and the other into the other branch
abbrev pub are_exclusive : List Turn → List Turn → Bool
are_exclusive v w = list_any (λ t. list_any (is_opposite t) (outside_loops w)) (outside_loops v)

-- each turn of the first is one of the second
abbrev pub is_part_of : List Turn → List Turn → Bool
is_part_of v w = list_all (λ t. list_any (is_same_turn t) w) v

-- Where control came by a way: possible are the entries whose way isn't exclusive with it; certain is what those settle
-- whose way is a part of it.
abbrev pub seen_along : Known → List Entry → List Turn → Known
seen_along k es way = record k {
  entries = k.entries ++ filter (λ f. not (are_exclusive f.way way)) es;
  certain = flat_map settled (filter (λ f. is_part_of f.way way) es) ++ k.certain;
}

-- .. as it came to the entry's term
abbrev pub seen_from : Known → List Entry → Entry → Known
seen_from k es e = seen_along k es e.way

-- where the names may be found from the entry's scope: the links of a field element, by its region, index, data or bank
-- names
abbrev pub links : Known → List Entry → Entry → List NameParts → List (List Path)
links k es e names = map (candidates (seen_from k es e) e.scope) names
