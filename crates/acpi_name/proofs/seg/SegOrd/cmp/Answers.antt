use Rattle.std.proofs.Common.{◌∙◌, ap, ap₂}
use Rattle.std.specs.Int.{from_be_bytes, w32}
use Rattle.std.specs.Ordering.{nat_cmp}
use Rattle.acpi_name.proofs.Segments.{segments_order}
use Rattle.acpi_name.proofs.seg.SegOrd.cmp.Goals as goal

pub returns : goal.returns
returns c =
    c.cmp.ensures ∙ ap₂ nat_cmp (c.from_be_bytes.ensures ∙ ap (from_be_bytes w32) c.bytes.ensures.value) (c.from_be_bytes-2.ensures ∙ ap (from_be_bytes w32) c.bytes-2.ensures.value)
    ∙ segments_order c.args.self.now c.args.other.now c.bytes.ensures.segment c.bytes-2.ensures.segment
