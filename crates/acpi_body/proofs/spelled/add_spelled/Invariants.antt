use Rattle.acpi_body.specs.Arguments.{namespace_of}
use Rattle.acpi_body.specs.steps.Gathering.{Asked, Grows}
use Rattle.acpi_body.proofs.SpelledNames.{IsMissedBefore}
use Rattle.acpi_body.proofs.spelled.add_spelled.Given as goal

abbrev pub invariant-loop-place : goal.invariant-loop-place
invariant-loop-place g l = Grows l.initial.firm l.firm (Asked (g.Q.Wanted.wanted l.wanted) (IsMissedBefore (namespace_of l.context.objects) l.context.method l.bytes l.place))
