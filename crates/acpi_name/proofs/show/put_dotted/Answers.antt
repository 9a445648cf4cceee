use Rattle.acpi_name.proofs.Segments.{later_segment}
use Rattle.acpi_name.proofs.show.put_dotted.Goals as goal

pub text_of-requires-in-loop-seg : goal.text_of-requires-in-loop-seg
text_of-requires-in-loop-seg g c = later_segment c.args.segs.now _ c.loop-seg.seg-index c.requires c.loop-seg-test.true
