-- What a `Declared` holds.
use Rattle.std.specs.Prelude.{List}
use Rattle.acpi_pass.specs.declared.link_map.LinkMap.{LinkMap}
use Rattle.acpi_declare.specs.declared.load.Declared.{Declared}
use Rattle.acpi_pass.specs.declared.notes.TableNotes.{TableNotes}

abbrev pub objects_in : {S : Type 0} → Declared S → S
objects_in d = d.objects

abbrev pub links_in : {S : Type 0} → Declared S → LinkMap
links_in d = d.links

abbrev pub notes_in : {S : Type 0} → Declared S → List TableNotes
notes_in d = d.notes.items
