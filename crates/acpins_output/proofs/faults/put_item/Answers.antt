use Rattle.acpins_io.proofs.Telling.{tells_more}
use Rattle.acpins_output.proofs.faults.put_item.Goals as goal

pub returns : goal.returns
returns g c = tells_more _ _ _ _ _ _ _ _ (tells_more _ _ _ _ _ _ _ _ (rw c.item_reason_word.ensures at c.put_text.ensures) c.put_text-2.ensures) c.put_number.ensures
