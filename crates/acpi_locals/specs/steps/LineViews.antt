-- Lines, as the code keeps them.
use Rattle.acpi_tree.specs.Terms.{TermTree}
use Rattle.acpi_locals.specs.Lines.{LineParts}
use Rattle.acpi_locals.specs.declared.lines.Line.{Line}

abbrev pub line_at : Line → TermTree → LineParts
line_at l t = record { line = l.number; before = l.before.now; statement = t }
