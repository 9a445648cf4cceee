use Rattle.std.proofs.Common.{[], refl}
use Rattle.acpi_declare.specs.Declaring.{state_of}
use Rattle.acpi_declare.proofs.TableLists.{no_tables, adds_ok, adds_err}
use Rattle.acpi_declare.proofs.declaring.Declaring.dsdt.Goals as goal

pub returns-clause-ok : goal.returns-clause-ok
returns-clause-ok g c =
    let s = c.in_ok-start.field-0 in
    let begun = no_tables c.args.depth 0 (state_of g.S.Space.contents s) c.in_ok-start.ensures.ok in
    adds_ok (λ d. state_of g.S.Space.contents d) c.args.depth 0 [] c.args.dsdt.now
    (state_of g.S.Space.contents s) c.add_table.result refl begun c.add_table.ensures.ok

pub returns-clause-err : goal.returns-clause-err
returns-clause-err g c =
    let s = c.in_ok-start.field-0 in
    let begun = no_tables c.args.depth 0 (state_of g.S.Space.contents s) c.in_ok-start.ensures.ok in
    adds_err (λ d. state_of g.S.Space.contents d) c.args.depth 0 [] c.args.dsdt.now
    (state_of g.S.Space.contents s) c.add_table.result refl begun c.add_table.ensures.err
