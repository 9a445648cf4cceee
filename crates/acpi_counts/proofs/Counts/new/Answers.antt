use Rattle.std.proofs.Common.{subst, sym}
use Rattle.acpi_counts.specs.Counts.{AreSmall}
use Rattle.acpi_counts.proofs.Listed.{no_counts}
use Rattle.acpi_counts.proofs.Small.{empty_small}
use Rattle.acpi_counts.proofs.Counts.new.Goals as goal

pub invariant_of-result : goal.invariant_of-result
invariant_of-result c = subst AreSmall (sym (no_counts _ _ c.new.ensures.items c.new-2.ensures)) empty_small

pub returns : goal.returns
returns c = no_counts _ _ c.new.ensures.items c.new-2.ensures
