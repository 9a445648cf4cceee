use Rattle.acpi_space.specs.Overlays.{lower_of}
use Rattle.acpi_space.specs.declared.overlay.OwnPaths.{OwnPaths}
use Rattle.acpi_space.proofs.Laid.{own_are, own_ascend, own_begins, own_gathered}
use Rattle.acpi_space.proofs.overlay.Overlay.own_paths.Goals as goal

pub returns-clause-ascend : goal.returns-clause-ascend
returns-clause-ascend g c =
    let contents = g.S.Space.contents in
    let own : OwnPaths g.row.S.Denot = record { lower = c.args.self.now.lower; paths = c.new.result } in
    own_ascend (lower_of contents c.args.self.now) (contents c.args.self.now.own) _
    (own_gathered contents own _ (contents c.args.self.now.own) c.new.ensures.items (c.in_ok-visit_pairs.ensures own _ (own_begins contents own)))

pub returns-clause-are : goal.returns-clause-are
returns-clause-are g c =
    let contents = g.S.Space.contents in
    let own : OwnPaths g.row.S.Denot = record { lower = c.args.self.now.lower; paths = c.new.result } in
    own_are (lower_of contents c.args.self.now) (contents c.args.self.now.own) _
    (own_gathered contents own _ (contents c.args.self.now.own) c.new.ensures.items (c.in_ok-visit_pairs.ensures own _ (own_begins contents own)))
