use Rattle.acpins_page.specs.Page.{plain_text}
use Rattle.acpins_page.specs.declared.style.TheConstants as constants
use Rattle.acpins_page.proofs.PageParts.{one_part_more}
use Rattle.acpins_page.proofs.writer.Page.end_text.Goals as goal

pub invariant_of-self : goal.invariant_of-self
invariant_of-self c = record {
  parts = one_part_more constants.HEAD.now c.args.self.now.html c.put_part.new.html (plain_text c.args.self.now.text) c.args.self.now.parts c.put_part.ensures;
}
