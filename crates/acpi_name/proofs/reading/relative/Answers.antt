use Rattle.std.proofs.Common.{arith}
use Rattle.acpi_name.proofs.NameTook.{path_took}
use Rattle.acpi_name.proofs.reading.relative.Goals as goal

pub of_parts-requires : goal.of_parts-requires
of_parts-requires c =
    let t = path_took _ (c.in_ok-segs.segs.now, c.in_ok-segs.rest.now) c.in_ok-segs.ensures.exact in
    record { are_segments = t.are_segments; few_segments = t.few; few_parents = omega arith; no_parents = λ h. absurd cc }
