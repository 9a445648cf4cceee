use Rattle.std.proofs.Common.{[], arith}
use Rattle.std.proofs.lemmas.List.Sums.{AllPass-from_list_all}
use Rattle.acpi_name.specs.Names.{is_segment}
use Rattle.acpi_name.proofs.name.NameRef.plain.Goals as goal

pub of_checked-requires : goal.of_checked-requires
of_checked-requires c = AllPass-from_list_all is_segment c.args.self.now.segs.now c.args.self.now.is_name.are_segments 0 [] (omega (arith, c.in-len1))
