use Rattle.std.proofs.Common.{[], ap, sym, ◌∙◌, Some}
use Rattle.std.proofs.lemmas.Option.{slice_get-get_or}
use Rattle.std.proofs.lemmas.List.Sums.{AllPass-from_list_all}
use Rattle.acpi_name.specs.Names.{is_segment}
use Rattle.acpi_name.proofs.name.NameRef.seg.Goals as goal

pub of_checked-requires : goal.of_checked-requires
of_checked-requires c = AllPass-from_list_all is_segment c.args.self.now.segs.now c.args.self.now.is_name.are_segments c.args.i [] c.requires

pub returns : goal.returns
returns c = slice_get-get_or c.args.self.now.segs.now c.args.i [] c.requires ∙ ap Some (sym c.of_checked.ensures)
