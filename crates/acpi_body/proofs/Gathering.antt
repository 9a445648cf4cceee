-- Searches gathered one after another.
use Rattle.std.proofs.Common.{◌≡◌, List, [], ◌∷◌, ◌++◌, refl, sym, ap, ◌∙◌}
use Rattle.acpi_space.specs.Wanted.{Wants}
use Rattle.acpi_tree.specs.Terms.{TermTree, TermTrees, buffer, pkg, var_pkg, call, apply, ElseTree, if_do, no_else, else_do, while_do, declare, declare_units, no_terms, more}
use Rattle.acpi_body.specs.declared.gathered.Gathered.{Gathered}
use Rattle.acpi_values.specs.Arguments.{Locals}
use Rattle.acpi_body.specs.Statements.{locals_after, locals_after_all}
use Rattle.acpi_body.specs.Searches.{Searched, term_searches, terms_searches, searches, else_searches, all_searches}
use Rattle.acpi_body.specs.steps.Setting.{Setting}
use Rattle.acpi_body.specs.steps.Gathering.{with_search, with_searches, after_value, after_values, after_statement, after_else, after_statements}

searched_then : (w : Wants) (c : Setting) (g : Gathered) (xs ys : List Searched) → with_searches w c g (xs ++ ys) ≡ with_searches w c (with_searches w c g xs) ys
searched_then w c g [] ys = refl
searched_then w c g (x ∷ xs) ys = searched_then w c (with_search w c g x) xs ys

-- a part, and what follows it
in_turn : (w : Wants) (c : Setting) (g mid : Gathered) (xs ys : List Searched) → mid ≡ with_searches w c g xs → with_searches w c mid ys ≡ with_searches w c g (xs ++ ys)
in_turn w c g mid xs ys e = ap (λ (m : Gathered). with_searches w c m ys) e ∙ sym (searched_then w c g xs ys)

mutual
  after_value_is : (w : Wants) (c : Setting) (locals : Locals) (g : Gathered) (t : TermTree) → after_value w c locals g t ≡ with_searches w c g (term_searches locals t)
  after_value_is w c locals g (buffer size content) = after_value_is w c locals g size
  after_value_is w c locals g (pkg count es) = after_values_are w c locals g es
  after_value_is w c locals g (var_pkg count es) =
      after_values_are w c locals (after_value w c locals g count) es
      ∙ in_turn w c g (after_value w c locals g count) (term_searches locals count) (terms_searches locals es) (after_value_is w c locals g count)
  after_value_is w c locals g (call n vs) = after_values_are w c locals (with_search w c g (locals, n)) vs
  after_value_is w c locals g (apply op vs) = after_values_are w c locals g vs
  after_value_is w c locals g _ = refl

  after_values_are : (w : Wants) (c : Setting) (locals : Locals) (g : Gathered) (ts : TermTrees) → after_values w c locals g ts ≡ with_searches w c g (terms_searches locals ts)
  after_values_are w c locals g no_terms = refl
  after_values_are w c locals g (more t ts) =
      after_values_are w c locals (after_value w c locals g t) ts ∙ in_turn w c g (after_value w c locals g t) (term_searches locals t) (terms_searches locals ts) (after_value_is w c locals g t)

mutual
  after_statement_is : (w : Wants) (c : Setting) (locals : Locals) (g : Gathered) (t : TermTree) → after_statement w c locals g t ≡ with_searches w c g (searches c.method locals t)
  after_statement_is w c locals g (if_do v ts e) =
      let inner = all_searches c.method locals ts in
      let other = else_searches c.method (locals_after_all c.method locals ts) e in
      let tested = after_value w c locals g v in
      let then : after_else w c (locals_after_all c.method locals ts) (after_statements w c locals tested ts) e ≡ with_searches w c tested (inner ++ other) =
      after_else_is w c (locals_after_all c.method locals ts) (after_statements w c locals tested ts) e
      ∙ in_turn w c tested (after_statements w c locals tested ts) inner other (after_statements_are w c locals tested ts) in
      then ∙ in_turn w c g tested (term_searches locals v) (inner ++ other) (after_value_is w c locals g v)
  after_statement_is w c locals g (while_do v ts) =
      after_statements_are w c locals (after_value w c locals g v) ts
      ∙ in_turn w c g (after_value w c locals g v) (term_searches locals v) (all_searches c.method locals ts) (after_value_is w c locals g v)
  after_statement_is w c locals g (declare form before n behind) =
      after_values_are w c locals (after_values w c locals g before) behind
      ∙ in_turn w c g (after_values w c locals g before) (terms_searches locals before) (terms_searches locals behind)
      (after_values_are w c locals g before)
  after_statement_is w c locals g (declare_units form ns vs es) = after_values_are w c locals g vs
  after_statement_is w c locals g t = after_value_is w c locals g t

  after_else_is : (w : Wants) (c : Setting) (locals : Locals) (g : Gathered) (e : ElseTree) → after_else w c locals g e ≡ with_searches w c g (else_searches c.method locals e)
  after_else_is w c locals g no_else = refl
  after_else_is w c locals g (else_do ts) = after_statements_are w c locals g ts

  pub after_statements_are : (w : Wants) (c : Setting) (locals : Locals) (g : Gathered) (ts : TermTrees) → after_statements w c locals g ts ≡ with_searches w c g (all_searches c.method locals ts)
  after_statements_are w c locals g no_terms = refl
  after_statements_are w c locals g (more t ts) =
      after_statements_are w c (locals_after c.method locals t) (after_statement w c locals g t) ts
      ∙ in_turn w c g (after_statement w c locals g t) (searches c.method locals t) (all_searches c.method (locals_after c.method locals t) ts) (after_statement_is w c locals g t)
