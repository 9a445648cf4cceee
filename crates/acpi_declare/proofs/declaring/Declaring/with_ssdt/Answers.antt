use Rattle.std.proofs.Common.{◌≡◌, ◌∙◌, length, sym, rules}
use Rattle.std.proofs.lemmas.List.{length-map}
use Rattle.acpi_declare.specs.Declaring.{state_of}
use Rattle.acpi_pass.specs.Notes.{notes_of}
use Rattle.acpi_declare.proofs.TableLists.{count_tables, adds_ok, adds_err}
use Rattle.acpi_declare.proofs.declaring.Declaring.with_ssdt.Goals as goal

pub returns-clause-ok : goal.returns-clause-ok
returns-clause-ok g c = λ tables so.
    let before = state_of g.S.Space.contents c.args.self in
    let counted : c.len-number.result ≡ length c.args.self.notes.items = search rules in
    let number : c.len-number.result ≡ length tables = counted ∙ sym (length-map c.args.self.notes.items notes_of) ∙ count_tables c.args.depth tables before so in
    adds_ok (λ d. state_of g.S.Space.contents d) c.args.depth c.len-number.result tables c.args.ssdt.now before c.add_table.result number so c.add_table.ensures.ok

pub returns-clause-err : goal.returns-clause-err
returns-clause-err g c = λ tables later so.
    let before = state_of g.S.Space.contents c.args.self in
    let counted : c.len-number.result ≡ length c.args.self.notes.items = search rules in
    let number : c.len-number.result ≡ length tables = counted ∙ sym (length-map c.args.self.notes.items notes_of) ∙ count_tables c.args.depth tables before so in
    adds_err (λ d. state_of g.S.Space.contents d) c.args.depth c.len-number.result tables c.args.ssdt.now before c.add_table.result number so c.add_table.ensures.err later
