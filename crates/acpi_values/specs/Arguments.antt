-- What decides how the bytes of a method body are read (ACPI 6.5, 5.3 and 20.2.5).
use Rattle.acpi_space.specs.Spaces.{PathMap}
use Rattle.acpi_values.specs.Grammars.{Grammar}

-- the paths that a body has declared so far
abbrev pub Locals : Type 0
Locals = PathMap (Unit {0})

-- the grammar of a body at each of its places, by what the body has declared before it
abbrev pub BodyGrammar : Type 0
BodyGrammar = Locals → Grammar
