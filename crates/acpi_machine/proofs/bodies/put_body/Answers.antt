use Rattle.acpi_body.specs.Bodies.{body_view}
use Rattle.acpi_pass.proofs.ValuesByPath.{put_mapped}
use Rattle.acpi_machine.proofs.bodies.put_body.Goals as goal

pub returns-in-Ok : goal.returns-in-Ok
returns-in-Ok c = put_mapped body_view c.args.bodies.now.entries c.insert.new.self.entries c.args.path c.args.body c.in-Ok.ensures.updates.0
