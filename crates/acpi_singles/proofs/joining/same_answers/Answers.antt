use Rattle.acpi_tree.specs.steps.Equality.{decides}
use Rattle.acpi_singles.proofs.JoinedValues.{answers_tell}
use Rattle.acpi_singles.proofs.joining.same_answers.Goals as goal

pub returns : goal.returns
returns c = rw c.eq.ensures (decides answers_tell c.args.answers.now c.args.others.now)
