-- The body at a path, as its map answers it.
use Rattle.std.proofs.Common.{◌≡◌, List, Option, sym, ap, ◌∙◌}
use Rattle.std.specs.Option.{option_map}
use Rattle.std.specs.Ordering.{is_eq}
use Rattle.std.specs.Map.{lookup}
use Rattle.std.specs.BTreeMap.{BTreeMap}
use Rattle.acpi_name.specs.Names.{Segment}
use Rattle.acpi_name.specs.Paths.{path_cmp}
use Rattle.acpi_space.proofs.Maps.{get_is_lookup}
use Rattle.acpi_body.specs.declared.body.Body.{Body}
use Rattle.acpi_body.specs.Bodies.{body_view}
use Rattle.acpi_pass.proofs.ValuesByPath.{lookup_mapped}
use Rattle.acpi_machine.specs.MachineView.{bodies_of}

pub body_answered : (m : BTreeMap (List Segment) Body) (p : List Segment) (o : Option Body) → o ≡ lookup (λ k. is_eq (path_cmp p k)) m.entries → bodies_of m p ≡ option_map body_view o
body_answered m p o e = get_is_lookup _ p ∙ lookup_mapped body_view _ m.entries ∙ ap (option_map body_view) (sym e)
