use Rattle.std.proofs.lemmas.Result.{IfOk-weaker}
use Rattle.std.specs.Prelude.{IsTrue}
use Rattle.std.specs.FinMap.{get}
use Rattle.acpi_body.specs.Arguments.{namespace_of}
use Rattle.acpi_body.specs.Bodies.{body_view}
use Rattle.acpi_body.specs.Misses.{IsFirmMiss, IsOpenMiss}
use Rattle.acpi_body.proofs.Listed.{paths_among, paths_ascend, counts_among, counts_ascend}
use Rattle.acpi_body.proofs.misses.misses_of.Goals as goal

pub returns-clause-firm : goal.returns-clause-firm
returns-clause-firm g c =
    let s = c.args.context.now in
    IfOk-weaker c.listed.result _ _ (λ m e. paths_among c.in_ok-gathered.gathered.firm
    (λ p. IsFirmMiss (namespace_of s.objects) (get s.externals) s.method (body_view c.args.body.now) p × IsTrue (g.Q.Wanted.wanted c.args.wanted.now p))
    m.firm.items e c.in_ok-gathered.ensures.firm) c.listed.ensures.firm

pub returns-clause-firm_ascend : goal.returns-clause-firm_ascend
returns-clause-firm_ascend g c = IfOk-weaker c.listed.result _ _ (λ m e. paths_ascend c.in_ok-gathered.gathered.firm m.firm.items e) c.listed.ensures.firm

pub returns-clause-open : goal.returns-clause-open
returns-clause-open g c =
    let s = c.args.context.now in
    IfOk-weaker c.listed.result _ _ (λ m e. counts_among c.in_ok-gathered.gathered.awaited
    (λ p count. IsOpenMiss (namespace_of s.objects) (get s.externals) s.method (body_view c.args.body.now) p count × IsTrue (g.Q.Wanted.wanted c.args.wanted.now p))
    m.open.items e c.in_ok-gathered.ensures.awaited) c.listed.ensures.open

pub returns-clause-open_ascend : goal.returns-clause-open_ascend
returns-clause-open_ascend g c = IfOk-weaker c.listed.result _ _ (λ m e. counts_ascend c.in_ok-gathered.gathered.awaited m.open.items e) c.listed.ensures.open
