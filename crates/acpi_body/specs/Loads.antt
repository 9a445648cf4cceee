-- Terms that load or unload a table: LoadTable, Load and Unload (ACPI 6.5, 20.2.5.3 and 20.2.5.4).
use Rattle.std.specs.Prelude.{◌≡◌, ◌⊎◌, Bool, true, false, ◌||◌}
use Rattle.acpi_tree.specs.Operators.{is_load}
use Rattle.acpi_tree.specs.Terms.{TermTree, TermTrees, buffer, pkg, var_pkg, call, apply, ElseTree, if_do, no_else, else_do, while_do, declare, declare_units, no_terms, more}
use Rattle.acpi_values.specs.Arguments.{Locals, BodyGrammar}

abbrev mutual
  pub has_load : TermTree → Bool
  has_load (buffer size content) = has_load size
  has_load (pkg count es) = have_load es
  has_load (var_pkg count es) = has_load count || have_load es
  has_load (call n vs) = have_load vs
  has_load (apply op vs) = is_load op || have_load vs
  has_load (if_do v ts e) = has_load v || (have_load ts || else_has_load e)
  has_load (while_do v ts) = has_load v || have_load ts
  has_load (declare form before n behind) = have_load before || have_load behind
  has_load (declare_units form ns vs es) = have_load vs
  has_load _ = false

  pub else_has_load : ElseTree → Bool
  else_has_load no_else = false
  else_has_load (else_do ts) = have_load ts

  -- one of them does
  pub have_load : TermTrees → Bool
  have_load no_terms = false
  have_load (more t ts) = has_load t || have_load ts

-- loads may stand under the second grammar where they may under the first, or there is none
abbrev pub KeepsLoads : BodyGrammar → BodyGrammar → Bool → Type 0
KeepsLoads a b some =
    ((locals : Locals) → (a locals).loads ≡ true → (b locals).loads ≡ true) ⊎ (some ≡ false)
