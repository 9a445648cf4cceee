-- How the nodes of tables are read: what is known so far (ACPI 6.5, 5.3 and 20.2.5).
use Rattle.std.specs.Prelude.{◌+◌, ◌%◌, ◌==◌, ◌&&◌, nat_le, ℕ, Bool, true, false, cond, is_none, is_ok, List, [], ◌∷◌, ◌++◌, length, filter, Option, Some, Result, Ok, Err}
use Rattle.std.specs.List.{list_any}
use Rattle.std.specs.FinMap as finite
use Rattle.acpi_name.specs.Names.{Segment, NameParts}
use Rattle.acpi_name.specs.Paths.{place_of}
use Rattle.acpi_space.specs.Lookups.{is_same_path}
use Rattle.acpi_space.specs.Spaces.{PathMap}
use Rattle.acpi_tree.specs.Tree.{ExternalParts, FieldTree}
use Rattle.acpi_counts.specs.Counts.{with_first}
use Rattle.acpi_outline.specs.declared.form.PackedForm.{PackedForm}
use Rattle.acpi_outline.specs.declared.form.PackedForm.TheVariants as forms
use Rattle.acpi_outline.specs.Nodes as outline
use Rattle.acpi_outline.specs.Nodes.{PlainTree, FixedTree, container, method, if_so, otherwise, while_so}
use Rattle.acpi_outline.specs.Rules.{Rules}
use Rattle.acpi_conditions.specs.Nodes as nodes
use Rattle.acpi_conditions.specs.Nodes.{Term, Nodes, no_nodes, declares, stop}
use Rattle.acpi_conditions.specs.Entries.{Path, Why}
use Rattle.acpi_conditions.specs.Known.{candidates, is_certain_name, declared_at, opened_at}
use Rattle.acpi_conditions.specs.Met.{met_by, numbers_met}
use Rattle.acpi_conditions.specs.Here.{meeting, scopes_around}
use Rattle.acpi_conditions.specs.Walk as walks
use Rattle.acpi_conditions.specs.Walk.{Walk}
use Rattle.acpi_body.specs.Arguments.{expected_place}
use Rattle.acpi_survey.specs.Counts.{counts_numbered, count_of}
use Rattle.acpi_survey.specs.NameUses.{names_used_in_plain, names_used_in_fixed}
use Rattle.acpi_survey.specs.declared.name_uses.NameUse.TheVariants.{Call}
use Rattle.acpi_survey.specs.Nodes.{term_at, plain_at, package_at, element_at, operands_of}

-- An Alias, by its place: where its source may be found when it is read, and whether it is found for certain.
pub record AliasSource : Type 0 where
  pub place : ℕ
  pub paths : List Path
  pub is_certain : Bool

-- What is known: the walk over the nodes so far; the place of the code's first byte; of each entry how many values
-- follow its name where it is called, None where that isn't sure; what the Externals of the table so far say; the
-- Scopes that were entered, by their places and the paths of their targets; the Aliases; and the called names of which
-- nothing was known, by the place of their node.
pub record Reading : Type 0 where
  pub walk : Walk
  pub base : ℕ
  pub counts : List (Option ℕ)
  pub expected : PathMap ℕ
  pub opened : List (ℕ × Path)
  pub sources : List AliasSource
  pub unknown : List (ℕ × List NameParts)

-- ---- how many values follow a name

-- a scope around isn't called
abbrev pub counts_at : Reading → Path → List (Option ℕ)
counts_at s p = cond (list_any (λ q. is_same_path q p) (scopes_around s.walk)) (Some 0 ∷ [])
    (counts_numbered s.counts (numbers_met (meeting s.walk) p))

abbrev pub count_at : Reading → NameParts → Option ℕ
count_at s n = count_of (finite.get s.expected) s.walk.around.scope (counts_at s) n
    (candidates (met_by (meeting s.walk)) s.walk.around.scope n)

-- ---- names of which nothing is known

-- no object may be where it is searched, and no External tells of it
abbrev pub is_unknown : Reading → NameParts → Bool
is_unknown s n = length (candidates (met_by (meeting s.walk)) s.walk.around.scope n) == 0
    && is_none (expected_place (finite.get s.expected) s.walk.around.scope n)

-- those of the node at the place behind others, if it has any
abbrev pub with_unknown : (place : ℕ) → List NameParts → List (ℕ × List NameParts)
    → List (ℕ × List NameParts)
with_unknown place [] unknown = unknown
with_unknown place (n ∷ ns) unknown = unknown ++ (place, n ∷ ns) ∷ []

-- before a node at the place in which these names are called
abbrev pub noticing : (place : ℕ) → List NameParts → Reading → Reading
noticing place names s =
    record s { unknown = with_unknown place (filter (is_unknown s) names) s.unknown }

-- ---- how it goes on

abbrev pub is_declared : Term → Walk → Bool
is_declared t w = is_ok (declared_at w.known w.around.scope t.name)

-- a term, with the count of its entry, if it is one
abbrev pub with_count : Term → Option ℕ → Reading → List (Option ℕ)
with_count t c s = cond (is_declared t s.walk) (s.counts ++ c ∷ []) s.counts

abbrev pub declaring : Term → Option ℕ → Reading → Reading
declaring t c s = record s { walk = walks.declare t s.walk; counts = with_count t c s }

abbrev pub entering : Term → Reading → Reading
entering t s = record s { walk = walks.enter_term t s.walk; counts = with_count t (Some 0) s }

-- the Aliases, and one whose source has that name
abbrev pub source_at : Reading → (place : ℕ) → NameParts → AliasSource
source_at s place n = record {
  place = place;
  paths = candidates (met_by (meeting s.walk)) s.walk.around.scope n;
  is_certain = is_certain_name (met_by (meeting s.walk)) s.walk.around.scope n;
}

abbrev pub with_source : (place : ℕ) → NameParts → Reading → Reading
with_source place n s = record s { sources = s.sources ++ source_at s place n ∷ [] }

abbrev pub passing : Reading → Reading
passing s = record s { walk = walks.pass s.walk }

abbrev pub stopping : ℕ → nodes.Stop → Reading → Reading
stopping place kind s = record s { walk = walks.stop_at place kind s.walk }

-- an External of a method (20.2.5.2, type 8) says how many arguments it has, seven at most, if none before it does
abbrev pub is_heard : ExternalParts → Bool
is_heard x = x.kind == 8 && nat_le x.args 7

abbrev pub with_expected : PathMap ℕ → ℕ → List Segment → Option Path → PathMap ℕ
with_expected counts n (g ∷ gs) (Some p) = with_first counts p n
with_expected counts n _ _ = counts

abbrev pub expecting : ExternalParts → Reading → Reading
expecting x s =
    record (passing s) {
      expected = cond (is_heard x)
          (with_expected s.expected x.args x.name.segments (place_of s.walk.around.scope x.name))
          s.expected;
    }

-- the Scopes, and one of the name that opens a scope
abbrev pub with_opened : (place : ℕ) → Result Path Why → List (ℕ × Path) → List (ℕ × Path)
with_opened place (Ok p) opened = opened ++ (place, p) ∷ []
with_opened place (Err why) opened = opened

abbrev pub opened_behind : Reading → (place : ℕ) → NameParts → List (ℕ × Path)
opened_behind s place n = with_opened place (opened_at s.walk.known s.walk.around.scope n) s.opened

-- past a node that does this, with nothing inside; the entry of a term has that count
abbrev pub after_doing : Nodes → Option ℕ → Reading → Reading
after_doing (declares t inside rest) c s = declaring t c s
after_doing (nodes.opens place n inside rest) c s =
    record s {
      walk = walks.walked_scope place n (λ w. w) s.walk;
      opened = opened_behind s place n;
    }
after_doing (stop place kind rest) c s = stopping place kind s
after_doing _ c s = passing s

abbrev pub past_plain : Reading → ℕ → PlainTree → Reading
past_plain s place (outline.external x) = expecting x s
past_plain s place (outline.alias source n) =
    after_doing (plain_at (s.base + place) (outline.alias source n) no_nodes) (count_at s source)
    (with_source (s.base + place) source s)
past_plain s place p = after_doing (plain_at (s.base + place) p no_nodes) (Some 0) s

abbrev pub after_plain : Reading → ℕ → PlainTree → Reading
after_plain s place p =
    past_plain (noticing (s.base + place) (names_used_in_plain Call p) s) place p

abbrev pub after_name : Reading → ℕ → NameParts → Reading
after_name s place n = declaring (term_at (s.base + place) n false []) (Some 0) s

abbrev pub opens : Reading → FixedTree → Bool
opens s (outline.scope n) = is_ok (opened_at s.walk.known s.walk.around.scope n)
opens s (container form n vs) = is_ok (declared_at s.walk.known s.walk.around.scope n)
opens s _ = true

abbrev pub into : Reading → ℕ → FixedTree → Reading
into s place (outline.scope n) =
    record s {
      walk = walks.enter_scope (s.base + place) n s.walk;
      opened = opened_behind s (s.base + place) n;
    }
into s place (container form n vs) = entering (term_at (s.base + place) n true []) s
into s place (if_so v) = record s { walk = walks.enter_first (s.base + place) s.walk }
into s place otherwise = record s { walk = walks.enter_other (s.base + place) s.walk }
into s place (while_so v) = record s { walk = walks.enter_body (s.base + place) s.walk }
into s place _ = s

-- the names in the fixed arguments are called before what stands in the package
abbrev pub noticing_fixed : Reading → ℕ → FixedTree → Reading
noticing_fixed s place f = noticing (s.base + place) (names_used_in_fixed Call f) s

abbrev pub enter : Reading → ℕ → FixedTree → Reading
enter s place f = into (noticing_fixed s place f) place f

abbrev pub begin_fields : Reading → ℕ → FixedTree → Reading
begin_fields s place f = passing (noticing_fixed s place f)

abbrev pub leave : Reading → Reading
leave s = record s { walk = walks.leave s.walk }

-- an element of a field list
abbrev pub after_field : Reading → ℕ → FixedTree → FieldTree → Reading
after_field s place f e =
    after_doing (element_at (s.base + place) (operands_of f) e no_nodes) (Some 0) s

-- a package that isn't gone into: a method, by the number of its arguments, or what is refused
abbrev pub after_closed : Reading → ℕ → FixedTree → List ℕ → Reading
after_closed s place (method n flags) content = after_doing
    (package_at (s.base + place) (method n flags) no_nodes no_nodes) (Some (flags % 8)) s
after_closed s place f content =
    after_doing (package_at (s.base + place) f no_nodes no_nodes) (Some 0) s

-- behind an If whose test is lost an Else belongs to it
abbrev pub after_lost : Reading → ℕ → Option PackedForm → Reading
after_lost s place (Some forms.If) = record s { walk = walks.lost_if (s.base + place) s.walk }
after_lost s place form = passing s

abbrev pub survey_rules : Rules Reading
survey_rules = record {
  args = count_at;
  opens = opens;
  after_plain = after_plain;
  after_name = after_name;
  enter = enter;
  leave = leave;
  begin_fields = begin_fields;
  after_field = after_field;
  after_closed = after_closed;
  after_lost = after_lost;
}
