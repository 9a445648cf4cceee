use Rattle.std.proofs.Common.{◌↔◌, ℕ, List, subst}
use Rattle.std.specs.Prelude.{IfOk, IsTrue}
use Rattle.std.specs.FinMap.{get}
use Rattle.acpi_name.specs.Names.{Segment}
use Rattle.acpi_space.specs.Laws.{Among}
use Rattle.acpi_space.specs.Spaces.{is_defined}
use Rattle.acpi_space.specs.Wanted.{Wants}
use Rattle.acpi_body.specs.Arguments.{namespace_of}
use Rattle.acpi_body.specs.Bodies.{body_view}
use Rattle.acpi_body.specs.Misses.{IsFirmMiss, IsOpenMiss}
use Rattle.acpi_body.specs.steps.Setting.{Setting}
use Rattle.acpi_body.proofs.misses.body_misses_among.Goals as goal

pub returns-clause-firm : goal.returns-clause-firm
returns-clause-firm g c =
    subst (λ (s : Setting). IfOk c.misses_of.result (λ m. (p : List Segment) → Among m.firm.items p ↔ (IsFirmMiss (namespace_of s.objects) (get s.externals) s.method (body_view c.args.body.now) p × IsTrue (is_defined (g.T.Space.contents c.args.among.now) p)))) c.new-context.ensures
    (subst (λ (w : Wants). IfOk c.misses_of.result (λ m. (p : List Segment) → Among m.firm.items p ↔ (IsFirmMiss (namespace_of c.new-context.result.objects) (get c.new-context.result.externals) c.new-context.result.method (body_view c.args.body.now) p × IsTrue (w p)))) c.new.ensures c.misses_of.ensures.firm)

pub returns-clause-open : goal.returns-clause-open
returns-clause-open g c =
    subst (λ (s : Setting). IfOk c.misses_of.result (λ m. (p : List Segment) (count : ℕ) → Among m.open.items (record { path = p; count = count }) ↔ (IsOpenMiss (namespace_of s.objects) (get s.externals) s.method (body_view c.args.body.now) p count × IsTrue (is_defined (g.T.Space.contents c.args.among.now) p)))) c.new-context.ensures
    (subst (λ (w : Wants). IfOk c.misses_of.result (λ m. (p : List Segment) (count : ℕ) → Among m.open.items (record { path = p; count = count }) ↔ (IsOpenMiss (namespace_of c.new-context.result.objects) (get c.new-context.result.externals) c.new-context.result.method (body_view c.args.body.now) p count × IsTrue (w p)))) c.new.ensures c.misses_of.ensures.open)
