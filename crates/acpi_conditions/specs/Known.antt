-- What is known of the namespace when control comes to a term: certain, possible and impossible paths, the search over
-- these, what a term declares and what it asks (ACPI 6.5, 5.3).
use Rattle.std.specs.Prelude.{◌≡◌, Bool, not, cond, ◌&&◌, ◌||◌, List, [], ◌∷◌, Option, Some, None, Result, Ok, Err, IsTrue}
use Rattle.std.specs.List.{filter, list_any}
use Rattle.acpi_name.specs.Names.{Segment, NameParts}
use Rattle.acpi_name.specs.Paths.{place_of, parent_of}
use Rattle.acpi_space.specs.Lookups.{is_same_path}
use Rattle.acpi_space.specs.Search.{tries}
use Rattle.acpi_space.specs.Laws.{Among}
use Rattle.acpi_conditions.specs.Nodes.{Term}
use Rattle.acpi_conditions.specs.Entries.{Path, Namespace, Asks, is_empty, Entry, Why, empty_name, above_root, missing, no_parent, not_a_scope, taken, unsure}

-- something stands at the path for certain; a scope, where it says so
pub record Certain : Type 0 where
  pub path : Path
  pub is_scope : Bool

-- The entries that control may have come by, and what is certain. In the body of a While nothing is impossible, since
-- an earlier round may have declared it.
pub record Known : Type 0 where
  pub entries : List Entry
  pub certain : List Certain
  pub in_loop : Bool

-- ---- the four tests

abbrev pub is_certain : Known → Path → Bool
is_certain k p = list_any (λ c. is_same_path c.path p) k.certain

abbrev pub is_certain_scope : Known → Path → Bool
is_certain_scope k p = list_any (λ c. is_same_path c.path p && c.is_scope) k.certain

abbrev pub is_possible : Known → Path → Bool
is_possible k p = k.in_loop || list_any (λ e. is_same_path e.path p) k.entries

abbrev pub is_possible_scope : Known → Path → Bool
is_possible_scope k p =
    k.in_loop || list_any (λ e. is_same_path e.path p && e.term.is_scope) k.entries

-- ---- search

-- the possible paths up to and with the first that is certain
abbrev pub up_to_certain : Known → List Path → List Path
up_to_certain k [] = []
up_to_certain k (p ∷ ps) = cond (is_certain k p) (p ∷ [])
    (cond (is_possible k p) (p ∷ up_to_certain k ps) (up_to_certain k ps))

-- where the name may be found
abbrev pub candidates : Known → Path → NameParts → List Path
candidates k s n = up_to_certain k (tries s n)

-- the name is found for certain
abbrev pub is_certain_name : Known → Path → NameParts → Bool
is_certain_name k s n = list_any (is_certain k) (tries s n)

-- ---- a term that declares

-- the path that it declares, or why it can't
abbrev pub if_free : Known → Path → Result Path Why
if_free k p = cond (is_certain k p) (Err (taken p)) (Ok p)

abbrev pub if_below : Known → Path → Path → Result Path Why
if_below k q p = cond (is_possible k q)
    (cond (is_possible_scope k q) (if_free k p) (Err (not_a_scope q))) (Err (no_parent q))

abbrev pub declared_in : Known → Path → List Segment → Option Path → Result Path Why
declared_in k s [] place = Err (empty_name s)
declared_in k s (g ∷ gs) None = Err (above_root s)
declared_in k s (g ∷ gs) (Some p) = if_below k (parent_of p) p

abbrev pub declared_at : Known → Path → NameParts → Result Path Why
declared_at k s n = declared_in k s n.segments (place_of s n)

-- what it asks: what isn't certain
abbrev pub asks_of : Known → Path → Term → Path → Asks
asks_of k s t p = record {
  has = not (is_certain_scope k (parent_of p));
  no = is_possible k p;
  needs = filter (λ n. not (is_certain_name k s n)) t.needs;
}

-- What an entry settles, whether its term declares its object or not: where it asks neither `has` nor `needs`,
-- something stands at its path; a scope, where it asks nothing and its object is one.
abbrev pub settled : Entry → List Certain
settled e = cond (e.asks.has || not (is_empty e.asks.needs)) []
    (record { path = e.path; is_scope = e.term.is_scope && not e.asks.no } ∷ [])

-- ---- a Scope

abbrev pub why_missing : Path → Option Path → Why
why_missing s None = above_root s
why_missing s (Some p) = missing p

abbrev pub opened_in : Known → Why → List Path → Result Path Why
opened_in k why [] = Err why
opened_in k why (p ∷ []) = cond (is_possible_scope k p) (Ok p) (Err (not_a_scope p))
opened_in k why (p ∷ q ∷ ps) = Err (unsure (p ∷ q ∷ ps))

-- the path whose scope it opens, or why it opens none
abbrev pub opened_at : Known → Path → NameParts → Result Path Why
opened_at k s n = opened_in k (why_missing s (place_of s n)) (candidates k s n)

-- ---- truth

-- what is known is true of this namespace
pub record IsTrueOf (objects : Namespace) (k : Known) : Type 0 where
  pub certain : (c : Certain) → Among k.certain c
      → (t : Term) × (objects c.path ≡ Some t) × (IsTrue c.is_scope → IsTrue t.is_scope)
  pub possible : IsTrue (not k.in_loop) → (p : Path) (t : Term) → objects p ≡ Some t
      → (e : Entry) × Among k.entries e × (e.path ≡ p) × (e.term ≡ t)
