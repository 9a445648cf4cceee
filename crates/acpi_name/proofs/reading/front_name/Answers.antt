use Rattle.std.proofs.Common.{arith, refl}
use Rattle.acpi_name.proofs.NameTook.{path_took}
use Rattle.acpi_name.proofs.reading.front_name.Goals as goal

pub of_parts-requires : goal.of_parts-requires
of_parts-requires c =
    let t = path_took _ (c.in_ok-segs-in-92.segs.now, c.in_ok-segs-in-92.rest.now) c.in_ok-segs-in-92.ensures.exact in
    record { are_segments = t.are_segments; few_segments = t.few; few_parents = omega arith; no_parents = λ h. refl }
