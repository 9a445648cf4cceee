use Rattle.acpi_resources.proofs.Templates.{decoded}
use Rattle.acpi_resources.proofs.template.decode.Goals as goal

pub returns : goal.returns
returns c =
    let read = c.in_ok-descriptors.ensures in
    decoded _ c.in_ok-descriptors.left.now c.args.bytes.now _ read.split (c.stop_of-stop.ensures.ends _ read.read) c.stop_of-stop.ensures.place c.stop_of-stop.ensures.none
