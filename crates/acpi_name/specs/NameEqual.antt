-- `==` on names.
-- Nothing here needs to be trusted: each `==` promises that it is true exactly of equal values.
use Rattle.std.specs.Prelude.{Bool, ◌&&◌, nat_eq}
use Rattle.std.specs.Bool.{beq}
use Rattle.std.specs.Cmp.Lexicographic.{pointwise}
use Rattle.acpi_name.specs.Names.{NameParts}

-- whether two names have the same parts
abbrev pub name_eq : NameParts → NameParts → Bool
name_eq m n = beq m.rooted n.rooted && nat_eq m.parents n.parents
    && pointwise (pointwise nat_eq) m.segments n.segments
