-- Entries: what a table may declare, and under which condition (ACPI 6.5, 5.3 and 20.2.5).
use Rattle.std.specs.Prelude.{◌≡◌, Bool, true, false, not, ◌&&◌, List, [], ◌∷◌, Some, None, IsTrue}
use Rattle.std.specs.List.{AllByRecursion}
use Rattle.acpi_name.specs.Names.{Segment, NameParts}
use Rattle.acpi_name.specs.Paths.{parent_of}
use Rattle.acpi_space.specs.Lookups.{Lookup, is_defined_in}
use Rattle.acpi_space.specs.Search.{answer}
use Rattle.acpi_conditions.specs.Nodes.{Place, Term, Stop}

abbrev pub Path : Type 0
Path = List Segment

-- ---- the namespace of a run

-- the term that declared the object at each path
abbrev pub Namespace : Type 0
Namespace = Lookup Term

-- an object below which others may be declared stands there
abbrev pub IsScopeIn : Namespace → Path → Type 0
IsScopeIn objects p = (t : Term) × (objects p ≡ Some t) × IsTrue t.is_scope

-- the search of the name finds a path
abbrev pub IsFoundIn : Namespace → Path → NameParts → Type 0
IsFoundIn objects s n = (p : Path) × (answer (is_defined_in objects) s n ≡ Some p)

-- ---- conditions

-- A turn of control on its way to a term: into the first branch of the If there, or not; into a round of the While
-- there; into the term or Scope there, which asks something; past the stop there.
pub data Turn : Type 0 where
  then_branch : Place → Turn
  else_branch : Place → Turn
  in_round : Place → Turn
  within : Place → Turn
  past : Place → Turn

-- What a term asks of the namespace when control comes to it: `has`, that a scope stands at the parent of its path;
-- `no`, that nothing stands at its path; `needs`, that these names are found.
pub record Asks : Type 0 where
  pub has : Bool
  pub no : Bool
  pub needs : List NameParts

abbrev pub is_empty : {X : Type 0} → List X → Bool
is_empty [] = true
is_empty (x ∷ xs) = false

abbrev pub asks_nothing : Asks → Bool
asks_nothing a = not a.has && not a.no && is_empty a.needs

-- a term that may declare the path, the scope in which it stands, and its condition: the way to it, and what it asks
pub record Entry : Type 0 where
  pub term : Term
  pub scope : Path
  pub path : Path
  pub way : List Turn
  pub asks : Asks

-- what the entry's term asks is so in this namespace
pub record Holds (objects : Namespace) (e : Entry) : Type 0 where
  pub has : IsTrue e.asks.has → IsScopeIn objects (parent_of e.path)
  pub no : IsTrue e.asks.no → objects e.path ≡ None
  pub needs : AllByRecursion (IsFoundIn objects e.scope) e.asks.needs

abbrev pub HasNoCondition : Entry → Type 0
HasNoCondition e = (e.way ≡ []) × IsTrue (asks_nothing e.asks)

-- ---- refusals

-- Why a term declares nothing, or a Scope isn't entered: it could be in no run; or the Scope has several candidates.
pub data Why : Type 0 where
  empty_name : Path → Why
  above_root : Path → Why
  missing : Path → Why
  no_parent : Path → Why
  not_a_scope : Path → Why
  taken : Path → Why
  unsure : List Path → Why

pub record Refusal : Type 0 where
  pub place : Place
  pub why : Why

-- a stop, and where it stands
pub record StopAt : Type 0 where
  pub place : Place
  pub kind : Stop
