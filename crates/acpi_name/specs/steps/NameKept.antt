-- How a name keeps its parts.
use Rattle.std.specs.Prelude.{box_value, [], ◌∷◌}
use Rattle.acpi_name.specs.Names.{NameParts}
use Rattle.acpi_name.specs.declared.name.Kept.{Kept}

abbrev pub parts_of : Kept → NameParts
parts_of (Kept.Single rooted parents seg) =
    record { rooted = rooted; parents = parents; segments = seg ∷ [] }
parts_of (Kept.Apart parts) =
    record {
      rooted = (box_value parts).rooted;
      parents = (box_value parts).parents;
      segments = (box_value parts).segs.items;
    }
