-- The grammar of the body of a method, as the code keeps what decides it (ACPI 6.5, 20.2.5).
use Rattle.std.specs.Prelude.{map}
use Rattle.acpi_body.specs.Arguments.{BodyGrammar}
use Rattle.acpi_conditions.specs.EntryForms.{entry_view}
use Rattle.acpi_conditions.specs.declared.entry.Entry.{Entry as EntryForm}
use Rattle.acpi_survey.specs.Bodies.{entry_grammar}
use Rattle.acpi_entries.specs.declared.method_bodies.Methods.{Methods}

abbrev pub method_grammar : Methods → EntryForm → BodyGrammar
method_grammar m e = entry_grammar
    (map (entry_view m.entries.ways.now) m.entries.paths.now.entries) m.counts.now m.expected.now
    (entry_view m.entries.ways.now e)
