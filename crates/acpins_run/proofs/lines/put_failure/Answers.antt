use Rattle.acpins_io.proofs.Telling.{tells_more}
use Rattle.acpins_run.proofs.lines.put_failure.Goals as goal

pub returns-in-Read : goal.returns-in-Read
returns-in-Read g c = rw c.in-Read.is (tells_more _ _ _ _ _ _ _ _ c.put_text-in-Read.ensures c.put_text-in-Read-2.ensures)

pub returns-in-BadHex : goal.returns-in-BadHex
returns-in-BadHex g c = rw c.in-BadHex.is (tells_more _ _ _ _ _ _ _ _ c.put_text-in-BadHex.ensures c.put_text-in-BadHex-2.ensures)

pub returns-in-Out : goal.returns-in-Out
returns-in-Out g c = rw c.in-Out.is (tells_more _ _ _ _ _ _ _ _ c.put_text-in-Out.ensures c.put_text-in-Out-2.ensures)

pub returns-in-Output : goal.returns-in-Output
returns-in-Output g c = rw c.in-Output.is c.put_text-in-Output.ensures

pub returns-in-Table : goal.returns-in-Table
returns-in-Table g c = rw c.in-Table.is (tells_more _ _ _ _ _ _ _ _ c.put_table.ensures (rw c.text.ensures at c.put_text-in-Table.ensures))

pub returns-in-Item : goal.returns-in-Item
returns-in-Item g c = rw c.in-Item.is (tells_more _ _ _ _ _ _ _ _ c.put_table-in-Item.ensures c.put_item.ensures)

pub returns-in-Load : goal.returns-in-Load
returns-in-Load g c = rw c.in-Load.is (tells_more _ _ _ _ _ _ _ _ c.put_table-in-Load.ensures c.put_load_reason.ensures)
