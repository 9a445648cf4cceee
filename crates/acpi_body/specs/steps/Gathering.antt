-- How the misses of a body are gathered, one search after another.
use Rattle.std.specs.Prelude.{◌↔◌, ◌⊎◌, ℕ, ◌+◌, nat_lt, Bool, false, cond, List, [], ◌∷◌, take, Option, Some, None, IsTrue}
use Rattle.std.specs.List.{filter}
use Rattle.std.specs.Option.{unwrap_or}
use Rattle.std.specs.FinMap.{get}
use Rattle.acpi_name.specs.Names.{Segment, NameParts}
use Rattle.acpi_name.specs.Spelling.{BeginsWithName}
use Rattle.acpi_name.specs.Reading.{ups}
use Rattle.acpi_space.specs.Spaces.{PathMap, is_defined}
use Rattle.acpi_space.specs.Lookups.{Lookup, is_same_path, is_defined_in}
use Rattle.acpi_space.specs.Search.{missed}
use Rattle.acpi_space.specs.Wanted.{Wants}
use Rattle.acpi_space.specs.Laws.{Among}
use Rattle.acpi_tree.specs.Terms.{TermTree, TermTrees, buffer, pkg, var_pkg, call, apply, ElseTree, if_do, no_else, else_do, while_do, declare, declare_units, no_terms, more}
use Rattle.acpi_counts.specs.Counts.{with_first}
use Rattle.acpi_body.specs.declared.gathered.Gathered.{Gathered}
use Rattle.acpi_values.specs.Arguments.{Locals}
use Rattle.acpi_body.specs.Arguments.{Namespace, namespace_of, with_path, defined_with}
use Rattle.acpi_body.specs.Searches.{Searched}
use Rattle.acpi_body.specs.Statements.{locals_after, locals_after_all}
use Rattle.acpi_body.specs.Misses.{awaited_place}
use Rattle.acpi_body.specs.steps.Setting.{Setting}

abbrev pub Paths : Type 0
Paths = PathMap (Unit {0})

abbrev pub is_at : Option (List Segment) → List Segment → Bool
is_at None p = false
is_at (Some q) p = is_same_path p q

-- the firm misses with those of one search, but for the path that it awaits
abbrev pub with_misses : Option (List Segment) → Paths → List (List Segment) → Paths
with_misses awaited firm [] = firm
with_misses awaited firm (p ∷ ps) =
    with_misses awaited (cond (is_at awaited p) firm (with_path firm p)) ps

-- the counts that are awaited with that of one search
abbrev pub with_awaited : Lookup ℕ → PathMap ℕ → Option (List Segment) → PathMap ℕ
with_awaited externals counts None = counts
with_awaited externals counts (Some p) = with_first counts p (unwrap_or (externals p) 0)

-- a path that is asked for
abbrev pub if_wanted : Wants → Option (List Segment) → Option (List Segment)
if_wanted w None = None
if_wanted w (Some p) = cond (w p) (Some p) None

-- what is gathered with one search more, of the paths that are asked for
unfoldable pub with_search : Wants → Setting → Gathered → Searched → Gathered
with_search w c g e =
    let objects = namespace_of c.objects in
    let awaited = awaited_place objects (get c.externals) c.method e.0 e.1 in
    record {
      firm = with_misses awaited g.firm
          (filter w (missed (defined_with objects e.0) c.method e.1));
      awaited =
          with_awaited (get c.externals) g.awaited (if_wanted w awaited);
    }

-- .. and with the searches of a read body, in order
abbrev pub with_searches : Wants → Setting → Gathered → List Searched → Gathered
with_searches w c g [] = g
with_searches w c g (e ∷ es) = with_searches w c (with_search w c g e) es

-- the same, term after term
abbrev mutual
  pub after_value : Wants → Setting → Locals → Gathered → TermTree → Gathered
  after_value w c locals g (buffer size content) = after_value w c locals g size
  after_value w c locals g (pkg count es) = after_values w c locals g es
  after_value w c locals g (var_pkg count es) =
      after_values w c locals (after_value w c locals g count) es
  after_value w c locals g (call n vs) = after_values w c locals (with_search w c g (locals, n)) vs
  after_value w c locals g (apply op vs) = after_values w c locals g vs
  after_value w c locals g _ = g

  pub after_values : Wants → Setting → Locals → Gathered → TermTrees → Gathered
  after_values w c locals g no_terms = g
  after_values w c locals g (more t ts) = after_values w c locals (after_value w c locals g t) ts

abbrev mutual
  pub after_statement : Wants → Setting → Locals → Gathered → TermTree → Gathered
  after_statement w c locals g (if_do v ts e) = after_else w c (locals_after_all c.method locals ts)
      (after_statements w c locals (after_value w c locals g v) ts) e
  after_statement w c locals g (while_do v ts) =
      after_statements w c locals (after_value w c locals g v) ts
  after_statement w c locals g (declare form before n behind) =
      after_values w c locals (after_values w c locals g before) behind
  after_statement w c locals g (declare_units form ns vs es) = after_values w c locals g vs
  after_statement w c locals g t = after_value w c locals g t

  pub after_else : Wants → Setting → Locals → Gathered → ElseTree → Gathered
  after_else w c locals g no_else = g
  after_else w c locals g (else_do ts) = after_statements w c locals g ts

  pub after_statements : Wants → Setting → Locals → Gathered → TermTrees → Gathered
  after_statements w c locals g no_terms = g
  after_statements w c locals g (more t ts) =
      after_statements w c (locals_after c.method locals t) (after_statement w c locals g t) ts

-- the paths have become those that they were, and those with P
abbrev pub Grows : Paths → Paths → (List Segment → Type 0) → Type 0
Grows old new P = (p : List Segment) → IsTrue (is_defined new p) ↔ (IsTrue (is_defined old p) ⊎ P p)

-- with P, and asked for
abbrev pub Asked : Wants → (List Segment → Type 0) → List Segment → Type 0
Asked w P p = P p × IsTrue (w p)

-- the search of the name at the front misses the path
pub record IsFrontMiss (objects : Namespace) (s : List Segment) (bytes : List ℕ)
    (p : List Segment) : Type 0 where
  pub name : NameParts
  pub count : ℕ
  pub begins : BeginsWithName name count bytes
  pub misses : Among (missed (is_defined_in objects) s name) p

-- more bytes 5E stand at the front than so many; no more of them are looked at
abbrev pub goes_above : ℕ → List ℕ → Bool
goes_above depth bytes = nat_lt depth (ups (take (depth + 1) bytes))
