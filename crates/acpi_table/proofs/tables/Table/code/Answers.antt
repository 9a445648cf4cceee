use Rattle.std.proofs.Common.{◌≡◌, ◌-◌, ◌∙◌, ap, drop, length, arith}
use Rattle.std.proofs.lemmas.List.{take_all, length-drop}
use Rattle.acpi_table.proofs.tables.Table.code.Goals as goal

pub returns : goal.returns
returns c =
    let whole = c.self.inside.whole.now in
    let seen : whole ≡ c.args.self.now = c.self.view_is in
    take_all (length whole - 36) (drop 36 whole) (omega (arith, length-drop 36 whole)) ∙ ap (drop 36) seen
