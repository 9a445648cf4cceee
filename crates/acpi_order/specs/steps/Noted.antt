-- The methods that are noted of tables.
use Rattle.std.specs.Prelude.{List, [], ◌∷◌, ◌++◌, map}
use Rattle.acpi_declare.specs.Notes.{Notes}
use Rattle.acpi_order.specs.Bodies.{Method, with_counts}

-- of a table, and of all tables
abbrev pub noted : Notes → List Method
noted n = map (with_counts n.counts) n.methods

abbrev pub all_noted : List Notes → List Method
all_noted [] = []
all_noted (n ∷ ns) = noted n ++ all_noted ns
