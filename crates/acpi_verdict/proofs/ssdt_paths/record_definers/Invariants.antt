use Rattle.std.proofs.Common.{map}
use Rattle.std.specs.List.{AllByRecursion}
use Rattle.std.specs.Vec.Iter.{into_iter_items}
use Rattle.acpi_verdict.specs.declared.ssdt_paths.SsdtPaths.{SsdtPaths}
use Rattle.acpi_verdict.specs.steps.Declaring.{args_in, AddsSsdt}
use Rattle.acpi_verdict.specs.steps.Overlays.{overlay_view}
use Rattle.acpi_verdict.proofs.AddedPaths.{IsWithArgs}
use Rattle.acpi_verdict.proofs.ssdt_paths.record_definers.Given as goal

-- the paths that are left stand with their arguments, and with what these add, all of them add
abbrev pub invariant-loop-path : goal.invariant-loop-path
invariant-loop-path g l =
    let tree = overlay_view g.O.Space.contents l.fn.overlay in
    let left = into_iter_items l.path-iterator in
    AllByRecursion (IsWithArgs tree) left
    × ((now : SsdtPaths) → AddsSsdt l.number (map (λ e. e.0) left) (args_in tree) l.declared now → AddsSsdt l.number tree.defined (args_in tree) l.initial.declared now)
