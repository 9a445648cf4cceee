use Rattle.std.proofs.Common.{◌≡◌, ◌∙◌, IfErr, length, map, ap, sym, subst, rules}
use Rattle.std.proofs.lemmas.List.{length-map}
use Rattle.acpi_space.specs.Overlays.{contents_over}
use Rattle.acpi_declare.specs.Declaring.{State, state_of}
use Rattle.acpi_pass.specs.Pending.{all_pending_of}
use Rattle.acpi_pass.specs.Namespace.{Namespace, namespace_of}
use Rattle.acpi_pass.specs.Notes.{notes_of}
use Rattle.acpi_declare.specs.steps.Outcomes.{IsTableFault}
use Rattle.acpi_declare.proofs.TableLists.{count_tables, adds_over, adds_err}
use Rattle.acpi_declare.proofs.declaring.Declaring.ssdt_over.Goals as goal

pub returns-clause-ok : goal.returns-clause-ok
returns-clause-ok g c = λ tables so.
    let all = state_of g.S.Space.contents c.args.self.now in
    let before : State = record { objects = namespace_of (contents_over g.S.Space.contents c.over.result); links = all_pending_of c.new.result.items; notes = map notes_of c.new-2.result.items } in
    let counted : c.len.result ≡ length c.args.self.now.notes.items = search rules in
    let number : c.len.result ≡ length tables = counted ∙ sym (length-map c.args.self.now.notes.items notes_of) ∙ count_tables c.args.depth tables all so in
    adds_over (λ d. state_of (contents_over g.S.Space.contents) d) c.args.depth c.len.result tables c.args.ssdt.now all before c.add_table.result number so
    (ap namespace_of c.over.ensures.contents) (ap all_pending_of c.new.ensures.items) (ap (map notes_of) c.new-2.ensures.items) c.add_table.ensures.ok

pub returns-clause-err : goal.returns-clause-err
returns-clause-err g c = λ tables later so.
    let all = state_of g.S.Space.contents c.args.self.now in
    let counted : c.len.result ≡ length c.args.self.now.notes.items = search rules in
    let number : c.len.result ≡ length tables = counted ∙ sym (length-map c.args.self.now.notes.items notes_of) ∙ count_tables c.args.depth tables all so in
    let fault = subst (λ (objects : Namespace). IfErr c.add_table.result (λ e. IsTableFault c.args.depth c.len.result objects c.args.ssdt.now e))
    (ap namespace_of c.over.ensures.contents) c.add_table.ensures.err in
    adds_err (λ d. state_of (contents_over g.S.Space.contents) d) c.args.depth c.len.result tables c.args.ssdt.now all c.add_table.result number so fault later
