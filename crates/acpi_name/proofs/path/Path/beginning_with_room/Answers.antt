use Rattle.std.proofs.Common.{sym, ◌∙◌, ap, ap₂, subst, ◌++◌, take}
use Rattle.acpi_name.specs.Names.{AreSegments}
use Rattle.acpi_name.proofs.Segments.{some_segments}
use Rattle.acpi_name.proofs.path.Path.beginning_with_room.Goals as goal

pub invariant_of-result : goal.invariant_of-result
invariant_of-result c =
    subst AreSegments (sym (c.in_ok-extend_from_slice.ensures.items ∙ ap₂ (λ a b. a ++ b) c.in_ok-segs.ensures.items (ap (take c.args.count) c.deref.ensures.value)))
    (some_segments c.args.count c.self.inside.segs.items c.self.invariant)
