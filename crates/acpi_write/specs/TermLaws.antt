-- What is written of terms is read again (ACPI 6.5, 20.2.5).
use Rattle.std.specs.Prelude.{◌≡◌, ◌≤◌, ℕ, zero, suc, true, List, Some}
use Rattle.std.specs.FinMap as finite
use Rattle.acpi_name.specs.Names.{Segment}
use Rattle.acpi_tree.specs.Terms.{TermTree, TermTrees, buffer, pkg, var_pkg, call, apply, ElseTree, if_do, no_else, else_do, while_do, declare, declare_units, no_terms, more}
use Rattle.acpi_tree.specs.TermFits.{terms_fit}
use Rattle.acpi_body.specs.Arguments.{Locals, BodyGrammar}
use Rattle.acpi_body.specs.Grammars.{Grammar}
use Rattle.acpi_body.specs.Spelling.{heights}
use Rattle.acpi_body.specs.Statements.{MayDeclare, locals_after, locals_after_all, ReadsBody}
use Rattle.acpi_write.specs.Laws.{AreTermsTyped}
use Rattle.acpi_write.specs.CanonicalTerms.{terms_bytes}

-- ---- calls and declared names

abbrev pub count_of : TermTrees → ℕ
count_of no_terms = zero
count_of (more t ts) = suc (count_of ts)

-- it is sure of each call in the value how many arguments its name asks for, and it has as many; a block or a
-- declaration is no value
abbrev mutual
  pub IsCounted : Grammar → TermTree → Type 0
  IsCounted g (buffer size content) = IsCounted g size
  IsCounted g (pkg count es) = AreCounted g es
  IsCounted g (var_pkg count es) = IsCounted g count × AreCounted g es
  IsCounted g (call n vs) = (g.args n ≡ Some (count_of vs)) × AreCounted g vs
  IsCounted g (apply op vs) = AreCounted g vs
  IsCounted g (if_do v ts e) = ⊥
  IsCounted g (while_do v ts) = ⊥
  IsCounted g (declare form before n behind) = ⊥
  IsCounted g (declare_units form ns vs es) = ⊥
  IsCounted g _ = Unit {0}

  pub AreCounted : Grammar → TermTrees → Type 0
  AreCounted g no_terms = Unit {0}
  AreCounted g (more t ts) = IsCounted g t × AreCounted g ts

-- Each call has as many arguments as its name asks for behind what is declared before it, and each name that is
-- declared has segments and a place in the method's path.
abbrev mutual
  pub MayStandIn : BodyGrammar → List Segment → Locals → TermTree → Type 0
  MayStandIn g s locals (if_do v ts e) = IsCounted (g locals) v
      × AllMayStandIn g s locals ts × ElseMayStandIn g s (locals_after_all s locals ts) e
  MayStandIn g s locals (while_do v ts) =
      IsCounted (g locals) v × AllMayStandIn g s locals ts
  MayStandIn g s locals (declare form before n behind) =
      AreCounted (g locals) before × MayDeclare s n × AreCounted (g locals) behind
  MayStandIn g s locals (declare_units form ns vs es) = AreCounted (g locals) vs
  MayStandIn g s locals t = IsCounted (g locals) t

  pub ElseMayStandIn : BodyGrammar → List Segment → Locals → ElseTree → Type 0
  ElseMayStandIn g s locals no_else = Unit {0}
  ElseMayStandIn g s locals (else_do ts) = AllMayStandIn g s locals ts

  pub AllMayStandIn : BodyGrammar → List Segment → Locals → TermTrees → Type 0
  AllMayStandIn g s locals no_terms = Unit {0}
  AllMayStandIn g s locals (more t ts) =
      MayStandIn g s locals t × AllMayStandIn g s (locals_after s locals t) ts

-- ---- the law

-- what is written of the terms of a body is read again as them, at any depth not below their height
abbrev pub TermsAreSpelled : Type 0
TermsAreSpelled =
    (g : BodyGrammar) (s : List Segment) (depth : ℕ) (ts : TermTrees) (bytes : List ℕ)
    → AreTermsTyped ts → terms_fit ts ≡ true → AllMayStandIn g s finite.empty ts
    → heights ts ≤ depth → terms_bytes ts ≡ Some bytes → ReadsBody g s depth bytes ts
