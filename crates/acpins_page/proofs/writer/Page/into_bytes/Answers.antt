use Rattle.std.proofs.Common.{subst, sym}
use Rattle.std.proofs.lemmas.Result.{IfOk-weaker}
use Rattle.acpins_page.specs.Page.{IsPage}
use Rattle.acpins_page.specs.declared.style.TheConstants as constants
use Rattle.acpins_page.proofs.writer.Page.into_bytes.Goals as goal

pub returns : goal.returns
returns c = IfOk-weaker c.into_bytes.result _ _ (λ bytes is. subst (IsPage constants.HEAD.now) (sym is) c.end_text.new.self.parts) c.into_bytes.ensures
