-- Names that are declared nowhere, as the definitions have them.
use Rattle.std.specs.Prelude.{List, map}
use Rattle.acpi_name_checks.specs.NoNames.{NoNameParts}
use Rattle.acpi_name_checks.specs.declared.no_name.NoName.{NoName}

abbrev pub no_name_view : NoName → NoNameParts
no_name_view n = record { method = n.method; line = n.line; name = n.name.now }

abbrev pub no_name_views : List NoName → List NoNameParts
no_name_views ns = map no_name_view ns
