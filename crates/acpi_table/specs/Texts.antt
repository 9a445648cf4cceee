-- Why no table could be cut, in words.
use Rattle.std.specs.Prelude.{ℕ, List, codes}
use Rattle.acpi_table.specs.declared.tables.TableFault.{TableFault}
use Rattle.acpi_table.specs.declared.tables.TableFault.TheVariants.{Short, BadLength, TooLong, Cut, BadSum}

-- of a table that has no possible length, or not this sum (ACPI 6.5, 5.2.6)
abbrev pub table_fault_text : TableFault → List ℕ
table_fault_text Short = codes "T1 Short"
table_fault_text BadLength = codes "T2 BadLength"
table_fault_text TooLong = codes "T3 TooLong"
table_fault_text Cut = codes "T4 Cut"
table_fault_text BadSum = codes "T5 BadSum"
