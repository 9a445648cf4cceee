use Rattle.std.proofs.Common.{◌≡◌, ◌++◌, map}
use Rattle.std.specs.Vec.Iter.{into_iter_items}
use Rattle.acpi_verdict.specs.steps.Declaring.{with_args}
use Rattle.acpi_verdict.specs.steps.Overlays.{overlay_view}
use Rattle.acpi_verdict.proofs.ssdt_paths.signatures.Given as goal

-- what is found, with what the paths that are left give, is what all of them give
abbrev pub invariant-loop-path : goal.invariant-loop-path
invariant-loop-path g l =
    let with = with_args (overlay_view g.O.Space.contents l.fn.overlay) in
    l.found.items ++ map with (into_iter_items l.path-iterator) ≡ map with l.fn.overlay.defined.items
