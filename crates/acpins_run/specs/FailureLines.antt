-- The line that says why a run failed (docs/COMMAND.md).
use Rattle.std.specs.Prelude.{ℕ, List, ◌∷◌, [], ◌++◌, codes, decimal}
use Rattle.acpi_table.specs.Texts.{table_fault_text}
use Rattle.acpins_output.specs.FaultTexts.{item_reason_text, load_reason_text}
use Rattle.acpins_run.specs.declared.failure.Failure.{Failure}
use Rattle.acpins_run.specs.declared.failure.Failure.TheVariants.{WrongWords, BadPath, NoSuchPath, NoTable, Read, BadHex, Out, Output, Table, Item, Load, Memory}

-- what fails in a table, by the table's number
abbrev pub in_table : ℕ → List ℕ → List ℕ
in_table number what = codes "table " ++ decimal number ++ codes ": " ++ what

-- a failure
abbrev pub failure_text : Failure → List ℕ
failure_text WrongWords = codes "wrong words"
failure_text BadPath = codes "bad path"
failure_text NoSuchPath = codes "no such path"
failure_text NoTable = codes "no table"
failure_text (Read file) = file.now ++ codes ": cannot be read"
failure_text (BadHex file) = file.now ++ codes ": bad hexadecimal text"
failure_text (Out file) = file.now ++ codes ": cannot be written"
failure_text Output = codes "standard output cannot be written"
failure_text (Table number fault) = in_table number (table_fault_text fault)
failure_text (Item number reason place) =
    in_table number (item_reason_text reason ++ codes " at " ++ decimal place)
failure_text (Load number reason) = in_table number (load_reason_text reason)
failure_text Memory = codes "M Memory"

-- its line
abbrev pub failure_line : Failure → List ℕ
failure_line failure = codes "acpins: " ++ failure_text failure ++ 10 ∷ []
