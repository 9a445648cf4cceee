use Rattle.std.proofs.Common.{◌∙◌, Some, None, sym, ap}
use Rattle.std.specs.Option.{option_map}
use Rattle.acpi_ranges.specs.Lookup.{found_of}
use Rattle.acpi_kinds.specs.Views.{kind_view}
use Rattle.acpi_objects.proofs.Entries.{part_object, predefined_object_of}
use Rattle.acpi_objects.proofs.parts.object_kind.Goals as goal

pub returns-in-Some-kind_of_part : goal.returns-in-Some-kind_of_part
returns-in-Some-kind_of_part c = λ found is.
    part_object found (found_of c.in-Some.part) (Some (kind_view c.in-Some-kind_of_part.kind)) c.args.number (sym (ap (option_map found_of) c.in-Some.is) ∙ is) c.in-Some-kind_of_part.ensures

pub returns-in-None-kind_of_part : goal.returns-in-None-kind_of_part
returns-in-None-kind_of_part c = λ found is. part_object found (found_of c.in-Some.part) None c.args.number (sym (ap (option_map found_of) c.in-Some.is) ∙ is) c.in-None-kind_of_part.ensures

pub returns-in-None : goal.returns-in-None
returns-in-None c = λ found is. predefined_object_of found _ c.args.number (sym (ap (option_map found_of) c.in-None.is) ∙ is) c.predefined_kind.ensures
