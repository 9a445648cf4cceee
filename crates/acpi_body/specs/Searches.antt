-- The names that a method body searches: those where a value or a statement stands, each with the paths that the body
-- has declared before it (ACPI 6.5, 5.3).
use Rattle.std.specs.Prelude.{◌≡◌, ℕ, List, [], ◌∷◌, ◌++◌}
use Rattle.acpi_name.specs.Names.{Segment, NameParts}
use Rattle.acpi_name.specs.Spelling.{SpellsName}
use Rattle.acpi_tree.specs.Terms.{TermTree, TermTrees, buffer, pkg, var_pkg, call, apply, ElseTree, if_do, no_else, else_do, while_do, declare, declare_units, no_terms, more}
use Rattle.acpi_values.specs.Arguments.{Locals}
use Rattle.acpi_body.specs.Statements.{locals_after, locals_after_all}

abbrev pub Searched : Type 0
Searched = Locals × NameParts

abbrev mutual
  pub term_searches : Locals → TermTree → List Searched
  term_searches locals (buffer size content) = term_searches locals size
  term_searches locals (pkg count es) = terms_searches locals es
  term_searches locals (var_pkg count es) = term_searches locals count ++ terms_searches locals es
  term_searches locals (call n vs) = (locals, n) ∷ terms_searches locals vs
  term_searches locals (apply op vs) = terms_searches locals vs
  term_searches locals _ = []

  pub terms_searches : Locals → TermTrees → List Searched
  terms_searches locals no_terms = []
  terms_searches locals (more t ts) = term_searches locals t ++ terms_searches locals ts

abbrev mutual
  pub searches : List Segment → Locals → TermTree → List Searched
  searches s locals (if_do v ts e) = term_searches locals v
      ++ (all_searches s locals ts ++ else_searches s (locals_after_all s locals ts) e)
  searches s locals (while_do v ts) = term_searches locals v ++ all_searches s locals ts
  searches s locals (declare form before n behind) =
      terms_searches locals before ++ terms_searches locals behind
  searches s locals (declare_units form ns vs es) = terms_searches locals vs
  searches s locals t = term_searches locals t

  pub else_searches : List Segment → Locals → ElseTree → List Searched
  else_searches s locals no_else = []
  else_searches s locals (else_do ts) = all_searches s locals ts

  pub all_searches : List Segment → Locals → TermTrees → List Searched
  all_searches s locals no_terms = []
  all_searches s locals (more t ts) =
      searches s locals t ++ all_searches s (locals_after s locals t) ts

-- a name is spelled at some place of the bytes
pub record IsSpelledIn (bytes : List ℕ) (n : NameParts) : Type 0 where
  pub before : List ℕ
  pub spelled : List ℕ
  pub after : List ℕ
  pub whole : bytes ≡ before ++ (spelled ++ after)
  pub spells : SpellsName n spelled
