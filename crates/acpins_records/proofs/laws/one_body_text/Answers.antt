use Rattle.acpins_records.proofs.OneContents.{one_body_text}
use Rattle.acpins_records.proofs.laws.one_body_text.Goals as goal

pub returns : goal.returns
returns c = one_body_text
