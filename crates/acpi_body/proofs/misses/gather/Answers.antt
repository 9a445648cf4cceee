use Rattle.std.proofs.Common.{◌≡◌, ◌↔◌, ℕ, List, Some, sym, subst}
use Rattle.std.specs.Prelude.{IfOk, IsTrue}
use Rattle.std.specs.FinMap.{get}
use Rattle.acpi_name.specs.Names.{Segment}
use Rattle.acpi_body.specs.declared.body.Body.{Body}
use Rattle.acpi_body.specs.Arguments.{namespace_of}
use Rattle.acpi_body.specs.Bodies.{body_view}
use Rattle.acpi_body.specs.Misses.{IsOpenMiss}
use Rattle.acpi_body.proofs.Grown.{none_asked}
use Rattle.acpi_body.proofs.misses.gather.Goals as goal

pub returns-in-Terms-clause-awaited : goal.returns-in-Terms-clause-awaited
returns-in-Terms-clause-awaited g c =
    let s = c.args.context.now in
    subst (λ (b : Body). IfOk c.gather_terms.result (λ k. (p : List Segment) (count : ℕ) → (get k.awaited p ≡ Some count) ↔ (IsOpenMiss (namespace_of s.objects) (get s.externals) s.method (body_view b) p count × IsTrue (g.Q.Wanted.wanted c.args.wanted.now p))))
    (sym c.in-Terms.is) (rw c.deref.ensures.value at c.gather_terms.ensures.awaited)

pub returns-in-Opaque-clause-awaited : goal.returns-in-Opaque-clause-awaited
returns-in-Opaque-clause-awaited g c =
    let s = c.args.context.now in
    subst (λ (b : Body). IfOk c.gather_bytes.result (λ k. (p : List Segment) (count : ℕ) → (get k.awaited p ≡ Some count) ↔ (IsOpenMiss (namespace_of s.objects) (get s.externals) s.method (body_view b) p count × IsTrue (g.Q.Wanted.wanted c.args.wanted.now p))))
    (sym c.in-Opaque.is) (none_asked c.gather_bytes.result (g.Q.Wanted.wanted c.args.wanted.now) c.gather_bytes.ensures.awaited)
