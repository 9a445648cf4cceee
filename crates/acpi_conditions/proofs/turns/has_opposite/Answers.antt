use Rattle.std.proofs.Common.{◌≡◌, false, sym, ◌∙◌}
use Rattle.acpi_conditions.specs.Turns.{turn_of}
use Rattle.acpi_conditions.proofs.WayTests.{no_opposite}
use Rattle.acpi_conditions.proofs.turns.has_opposite.Goals as goal

pub returns-else-is_branch : goal.returns-else-is_branch
returns-else-is_branch c =
    let isnt : c.is_branch.result ≡ false = cc in
    isnt ∙ sym (no_opposite (turn_of c.args.turn) c.args.turns.now (sym c.is_branch.ensures ∙ isnt))
