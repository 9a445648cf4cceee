use Rattle.acpins_io.proofs.Telling.{tells_more}
use Rattle.acpins_survey_run.proofs.lines.put_failure.Goals as goal

pub returns-in-NotUtf8 : goal.returns-in-NotUtf8
returns-in-NotUtf8 g c = rw c.in-NotUtf8.is (tells_more _ _ _ _ _ _ _ _ c.put_argument.ensures c.put_text.ensures)

pub returns-in-BadPath : goal.returns-in-BadPath
returns-in-BadPath g c =
    let word = rw c.as_slice-in-BadPath.ensures.value at c.write_part-in-BadPath.ensures in
    let hint = rw (c.path_hint.ensures, c.as_slice-in-BadPath-2.ensures.value) at c.put_text-in-BadPath-2.ensures in
    rw c.in-BadPath.is (tells_more _ _ _ _ _ _ _ _ (tells_more _ _ _ _ _ _ _ _ c.put_text-in-BadPath.ensures word) hint)

pub returns-in-NoSuchPath : goal.returns-in-NoSuchPath
returns-in-NoSuchPath g c = rw c.in-NoSuchPath.is c.put_text-in-NoSuchPath.ensures

pub returns-in-Read : goal.returns-in-Read
returns-in-Read g c =
    let cause = rw c.read_cause.ensures at c.put_text-in-Read.ensures in
    rw c.in-Read.is (tells_more _ _ _ _ _ _ _ _ c.put_about-in-Read.ensures cause)

pub returns-in-Out : goal.returns-in-Out
returns-in-Out g c =
    let cause = rw c.host_cause.ensures at c.put_text-in-Out.ensures in
    rw c.in-Out.is (tells_more _ _ _ _ _ _ _ _ c.put_about-in-Out.ensures cause)

pub returns-in-HoldsTables : goal.returns-in-HoldsTables
returns-in-HoldsTables g c = rw c.in-HoldsTables.is c.put_about-in-HoldsTables.ensures

pub returns-in-Output : goal.returns-in-Output
returns-in-Output g c = rw c.in-Output.is c.put_text-in-Output.ensures
