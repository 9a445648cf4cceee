use Rattle.std.proofs.Common.{◌≡◌, ◌+◌, length, reverse}
use Rattle.acpi_tree.specs.Offsets.{list_bits}
use Rattle.acpi_tree.specs.View.{fields_view}
use Rattle.acpi_pass.specs.steps.View.{pass_with_units}
use Rattle.acpi_pass.specs.Sites.{unit_steps}
use Rattle.acpi_pass.specs.steps.Pass.{take_steps}
use Rattle.acpi_pass.proofs.pass.Pass.declare_units.Given as goal

abbrev pub invariant-loop-elem : goal.invariant-loop-elem
invariant-loop-elem g l =
    (take_steps (pass_with_units l.self l.fields.names.now l.scope l.segs.items) l.scope
    (unit_steps l.fields.form l.fields.flags l.fields.names.now l.offset (fields_view (reverse l.left.items)))
    ≡ take_steps (pass_with_units l.initial.self l.fields.names.now l.scope l.initial.segs.items) l.scope
    (unit_steps l.fields.form l.fields.flags l.fields.names.now 0 (fields_view (reverse l.initial.left.items))))
    × (l.offset + list_bits (fields_view (reverse l.left.items)) ≡ list_bits (fields_view (reverse l.initial.left.items))) × (l.self.lower ≡ l.initial.self.lower)

abbrev pub decreases-loop-elem : goal.decreases-loop-elem
decreases-loop-elem g l = length l.left.items
