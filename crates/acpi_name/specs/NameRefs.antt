-- What a lent name says.
use Rattle.acpi_name.specs.Names.{NameParts}
use Rattle.acpi_name.specs.declared.name.NameRef.{NameRef}

-- the parts of a lent name
abbrev pub name_parts : NameRef → NameParts
name_parts n = record { rooted = n.rooted; parents = n.parents; segments = n.segs.now }
