use Rattle.std.proofs.Common.{◌≡◌, drop}
use Rattle.acpi_check_ids.specs.Ids.{id_among}
use Rattle.acpi_check_ids.proofs.ids.id_among.Given as goal

abbrev pub invariant-loop-id : goal.invariant-loop-id
invariant-loop-id l = id_among l.ids l.text ≡ id_among (drop l.id-index l.ids) l.text
