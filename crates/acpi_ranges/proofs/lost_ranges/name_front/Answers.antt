use Rattle.std.proofs.Common.{◌≡◌, ℕ, Option, Some, None, refl, sym}
use Rattle.acpi_name.specs.Names.{NameParts}
use Rattle.acpi_ranges.specs.LostRanges.{name_front}
use Rattle.acpi_ranges.proofs.NameFronts.{name_fronts}
use Rattle.acpi_ranges.proofs.lost_ranges.name_front.Goals as goal

pub returns-in-Ok : goal.returns-in-Ok
returns-in-Ok c = sym ((name_fronts c.args.bytes.now _ _).1 (rw c.in-Ok.is at c.read_name.ensures.found))

pub returns-in-Err : goal.returns-in-Err
returns-in-Err c = by (name_front c.args.bytes.now) refl
  where
    by : (o : Option (NameParts × ℕ)) → name_front c.args.bytes.now ≡ o → None ≡ name_front c.args.bytes.now
    by None e = sym e
    by (Some (n, count)) e = absurd (rw c.in-Err.is at c.read_name.ensures.only n count ((name_fronts c.args.bytes.now n count).0 e))
