use Rattle.std.proofs.Common.{◌≡◌, drop}
use Rattle.acpins_words.specs.Arguments.{depth_said}
use Rattle.acpins_words.proofs.DepthText.{depth_after}
use Rattle.acpins_words.proofs.arguments.depth_of.Given as goal

abbrev pub invariant-loop-digit : goal.invariant-loop-digit
invariant-loop-digit l = depth_after l.depth (drop l.digit-index l.digit-items) ≡ depth_said l.text
