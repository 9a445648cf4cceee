use Rattle.std.proofs.Common.{◌∙◌, refl, sym}
use Rattle.acpi_verdict.specs.declared.clashes.Clash.{Clash}
use Rattle.acpi_verdict.proofs.Offers.{offered, not_offered}
use Rattle.acpi_verdict.proofs.clashes.offer.Goals as goal

pub returns-in_ok-copy : goal.returns-in_ok-copy
returns-in_ok-copy c =
    let clash : Clash = record { first = c.args.first; second = c.args.second; path = c.in_ok-copy.field-0 } in
    offered c.args.clash.now c.args.first c.args.second c.args.path.now (sym c.is_earlier.ensures ∙ c.if-is_earlier.true) clash refl refl c.in_ok-copy.ensures

pub returns-else-is_earlier : goal.returns-else-is_earlier
returns-else-is_earlier c = not_offered c.args.clash.now c.args.first c.args.second c.args.path.now (sym c.is_earlier.ensures ∙ c.if-is_earlier.false)
