use Rattle.std.proofs.Common.{◌≡◌, IfOk, map, subst}
use Rattle.std.specs.FinMap.{entries}
use Rattle.acpi_space.specs.Overlays.{lower_of}
use Rattle.acpi_space.specs.Spaces.{PathMap}
use Rattle.acpi_space.proofs.Laid.{both_gathered}
use Rattle.acpi_space.proofs.overlay.OverlaySpace.pairs.Goals as goal

pub returns : goal.returns
returns g c =
    let gathered = both_gathered c.new-pairs.result.entries c.add_pairs.new.pairs.entries c.add_pairs-2.new.pairs.entries c.in_ok-lent_pairs.field-0.items c.in_ok-pairs.field-0.items
    (lower_of g.S.Space.contents c.args.self.now) (g.S.Space.contents c.args.self.now.own) c.new-pairs.ensures.empty c.in_ok-add_pairs.ensures c.in_ok-lent_pairs.ensures
    c.in_ok-add_pairs-2.ensures c.in_ok-pairs.ensures in
    subst (λ (m : PathMap g.row.V.Denot). IfOk c.listed.result (λ v. map (λ p. (p.0, p.1.now)) v.items ≡ entries m)) gathered c.listed.ensures
