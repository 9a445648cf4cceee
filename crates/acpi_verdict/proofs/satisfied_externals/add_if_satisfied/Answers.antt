use Rattle.std.proofs.Common.{◌≡◌, List, sym, subst, ◌∙◌}
use Rattle.acpi_name.specs.Names.{Segment}
use Rattle.acpi_verdict.specs.declared.verdicts.Satisfied.{Satisfied}
use Rattle.acpi_verdict.specs.steps.Finding.{AddsSatisfied}
use Rattle.acpi_verdict.proofs.SatisfiedExternals.{adds_one, met_here}
use Rattle.acpi_verdict.proofs.satisfied_externals.add_if_satisfied.Goals as goal

pub returns-in_ok-push : goal.returns-in_ok-push
returns-in_ok-push c =
    let old = c.args.found.now.items in
    let new = c.push.new.self.items in
    let x = c.args.definer.now in
    let key : List Segment → Satisfied = λ p. record { user = c.args.user; definer = x.number; path = p } in
    met_here c.args.user c.args.path.now c.args.count x old new c.if-definer-user.true (sym c.takes.ensures ∙ c.if-takes.true)
    (subst (λ (p : List Segment). AddsSatisfied old new (λ s. key p ≡ s)) c.in_ok-copy.ensures
    (subst (λ (l : List Satisfied). AddsSatisfied old l (λ s. key c.in_ok-copy.field-0 ≡ s)) (sym c.in_ok-push.ensures.items) (adds_one old (key c.in_ok-copy.field-0))))
