use Rattle.acpins_io.proofs.Telling.{tells_more}
use Rattle.acpins_output.proofs.PathTexts.{path_said}
use Rattle.acpins_output.proofs.faults.put_path.Goals as goal

pub returns-in-len1-up : goal.returns-in-len1-up
returns-in-len1-up g c =
    rw (← c.segs.ensures.all, path_said c.segs.result.now c.first-item.result c.in-len1-up.len_at_least c.first-item.is)
    (tells_more _ _ _ _ _ _ _ _ (tells_more _ _ _ _ _ _ _ _ c.put_text.ensures (rw c.bytes.ensures.value at c.write_part.ensures)) c.put_behind.ensures)
