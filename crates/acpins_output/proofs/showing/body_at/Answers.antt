use Rattle.std.proofs.Common.{sym}
use Rattle.acpins_output.proofs.BodyAt.{body_answered}
use Rattle.acpins_output.proofs.showing.body_at.Goals as goal

pub returns : goal.returns
returns c = sym (body_answered c.args.bodies.now c.args.path.now _ c.get.ensures.value)
