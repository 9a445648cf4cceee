use Rattle.std.proofs.Common.{ℕ, length}
use Rattle.acpi_resources.specs.Templates.{HasNoEndTag}
use Rattle.acpi_resources.specs.steps.TemplateRead.{Splits}
use Rattle.acpi_resources.proofs.template.read.Given as goal

abbrev pub invariant-loop-descriptor : goal.invariant-loop-descriptor
invariant-loop-descriptor l = record {
  split : Splits l.descriptors.items l.left l.bytes;
  none_yet : HasNoEndTag l.descriptors.items;
}

abbrev pub decreases-loop-descriptor : goal.decreases-loop-descriptor
decreases-loop-descriptor l = length l.left
