use Rattle.std.proofs.Common.{◌≡◌, length}
use Rattle.acpi_space.specs.Lookups.{union}
use Rattle.acpi_pass.specs.Pending.{unit_paths}
use Rattle.acpi_pass.specs.Links.{links_at}
use Rattle.acpi_pass.specs.steps.View.{links_with}
use Rattle.acpi_pass.proofs.links.put_unit_links.Given as goal

abbrev pub invariant-loop-seg : goal.invariant-loop-seg
invariant-loop-seg l =
    union (links_at l.links) (links_with l.answers.value.items (unit_paths l.scope l.left.items))
    ≡ union (links_at l.initial.links) (links_with l.answers.value.items (unit_paths l.scope l.initial.left.items))

abbrev pub decreases-loop-seg : goal.decreases-loop-seg
decreases-loop-seg l = length l.left.items
