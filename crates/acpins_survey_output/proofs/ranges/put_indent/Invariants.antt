use Rattle.std.proofs.Common.{◌≡◌, ◌++◌}
use Rattle.acpins_survey_output.specs.Maps.{indent}
use Rattle.acpins_survey_output.proofs.ranges.put_indent.Given as goal

abbrev pub invariant-loop : goal.invariant-loop
invariant-loop l = l.text ≡ l.initial.text ++ indent l.counter
