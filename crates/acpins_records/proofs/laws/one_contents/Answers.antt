use Rattle.acpins_records.proofs.OneContents.{one_contents}
use Rattle.acpins_records.proofs.laws.one_contents.Goals as goal

pub returns : goal.returns
returns c = one_contents
