use Rattle.std.proofs.Common.{◌≡◌, drop}
use Rattle.acpi_name.specs.NameRefs.{name_parts}
use Rattle.acpi_space.specs.Search.{answer}
use Rattle.acpi_space.specs.Spaces.{is_defined}
use Rattle.acpi_counts.proofs.Listed.{answer_with}
use Rattle.acpi_counts.proofs.Counts.find.Given as goal

abbrev pub invariant-loop-path : goal.invariant-loop-path
invariant-loop-path l = answer_with l.scope (name_parts l.name) (drop l.path-index l.path-items) l.found ≡ answer (is_defined l.self) l.scope (name_parts l.name)
