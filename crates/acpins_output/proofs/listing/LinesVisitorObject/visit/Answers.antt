use Rattle.std.proofs.Common.{refl}
use Rattle.acpins_output.proofs.Printing.{line_put}
use Rattle.acpins_output.proofs.listing.LinesVisitorObject.visit.Goals as goal

pub returns : goal.returns
returns c first pairs so =
    line_put first c.args.self.now _ pairs c.args.path.now c.args.object.now c.links_of.result.now so refl c.links_of.ensures c.put_line.ensures
