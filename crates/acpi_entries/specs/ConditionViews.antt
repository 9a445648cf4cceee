-- Literals and links as the code keeps them.
use Rattle.std.specs.Prelude.{List, map}
use Rattle.std.specs.Option.{option_map}
use Rattle.acpi_tree.specs.TermView.{term_view}
use Rattle.acpi_entries.specs.Condition.{LiteralParts, if_taken, if_missed, while_taken, stop_missed, has, free, needs, PlacedParts}
use Rattle.acpi_entries.specs.EntryLinks.{LinkParts}
use Rattle.acpi_entries.specs.declared.condition.Literal.{Literal}
use Rattle.acpi_entries.specs.declared.condition.Literal.TheVariants as literals
use Rattle.acpi_entries.specs.declared.condition.PlacedLiteral.{PlacedLiteral}
use Rattle.acpi_entries.specs.declared.links.Link.{Link}

abbrev pub literal_view : Literal → LiteralParts
literal_view (literals.If test) = if_taken (option_map (λ t. term_view t.now) test)
literal_view (literals.Not test) = if_missed (option_map (λ t. term_view t.now) test)
literal_view (literals.While test) = while_taken (option_map (λ t. term_view t.now) test)
literal_view literals.Past = stop_missed
literal_view (literals.Has p) = has p
literal_view (literals.No p) = free p.now
literal_view (literals.Needs n) = needs n.now

abbrev pub placed_view : PlacedLiteral → PlacedParts
placed_view l = record { site = l.site; literal = literal_view l.literal }

abbrev pub placed_views : List PlacedLiteral → List PlacedParts
placed_views ls = map placed_view ls

abbrev pub link_view : Link → LinkParts
link_view l = record { name = l.name.now; paths = l.paths.items; is_certain = l.is_certain }

abbrev pub link_views : List Link → List LinkParts
link_views ls = map link_view ls
