use Rattle.std.proofs.Common.{length}
use Rattle.acpins_survey_uses.proofs.local_lines.put_locals_before.Given as goal

abbrev pub decreases-loop-rest : goal.decreases-loop-rest
decreases-loop-rest l = length l.rest
