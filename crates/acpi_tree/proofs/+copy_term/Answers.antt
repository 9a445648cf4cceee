use Rattle.std.proofs.Common.{◌≡◌, Result, IfOk, sym, ap, subst, rules}
use Rattle.acpi_tree.specs.declared.term.Decl.{Decl}
use Rattle.acpi_tree.specs.declared.term.Term.{Term}
use Rattle.acpi_tree.specs.Terms.{TermTree}
use Rattle.acpi_tree.specs.TermView.{term_view, decl_view, operand_view}
use Rattle.acpi_tree.proofs.TermForms.{view_of_str, view_of_buffer, view_of_package, view_of_ref, view_of_call, view_of_op, view_of_declare}
use Rattle.acpi_tree.proofs.TermForms.{view_of_declared_mutex, view_of_declared_event, view_of_declared_field, view_of_declared_index_field}
use Rattle.acpi_tree.proofs.+copy_term.Goals as goal

-- What a wrong body leaves open is named here: its refusal then names it, and needs no second search.

pub term_copies::copy_else-returns : goal.term_copies::copy_else-returns
term_copies::copy_else-returns t c = search rules

-- A copy of a form stands for the tree of what was copied.

term_copied : {E : Type 0} {t u : TermTree} (r : Result Term E) → IfOk r (λ x. term_view x ≡ t) → u ≡ t → IfOk r (λ x. term_view x ≡ u)
term_copied r made is = subst (λ v. IfOk r (λ x. term_view x ≡ v)) (sym is) made

decl_copied : {E : Type 0} {t u : TermTree} (r : Result Decl E) → IfOk r (λ x. decl_view x ≡ t) → u ≡ t → IfOk r (λ x. decl_view x ≡ u)
decl_copied r made is = subst (λ v. IfOk r (λ x. decl_view x ≡ v)) (sym is) made

pub term::Term::copy-returns-in-Int : goal.term::Term::copy-returns-in-Int
term::Term::copy-returns-in-Int t c = sym (ap term_view c.in-Int.is)

pub term::Term::copy-returns-in-Str : goal.term::Term::copy-returns-in-Str
term::Term::copy-returns-in-Str t c = term_copied c.copy_string.result c.copy_string.ensures (view_of_str c.args.self.now c.in-Str.text c.deref.result.now c.in-Str.is
    c.deref.ensures.value)

pub term::Term::copy-returns-in-Buffer : goal.term::Term::copy-returns-in-Buffer
term::Term::copy-returns-in-Buffer t c = term_copied c.copy_buffer.result c.copy_buffer.ensures
    (view_of_buffer c.args.self.now c.in-Buffer.size c.in-Buffer.bytes c.deref-in-Buffer.result.now c.deref-in-Buffer-2.result.now c.in-Buffer.is
    c.deref-in-Buffer.ensures c.deref-in-Buffer-2.ensures.value)

pub term::Term::copy-returns-in-Package : goal.term::Term::copy-returns-in-Package
term::Term::copy-returns-in-Package t c = term_copied c.copy_package.result c.copy_package.ensures
    (view_of_package c.args.self.now c.in-Package.count c.in-Package.elems c.deref-in-Package.result.now c.in-Package.is c.deref-in-Package.ensures.value)

pub term::Term::copy-returns-in-Local : goal.term::Term::copy-returns-in-Local
term::Term::copy-returns-in-Local t c = sym (ap term_view c.in-Local.is)

pub term::Term::copy-returns-in-Arg : goal.term::Term::copy-returns-in-Arg
term::Term::copy-returns-in-Arg t c = sym (ap term_view c.in-Arg.is)

pub term::Term::copy-returns-in-Debug : goal.term::Term::copy-returns-in-Debug
term::Term::copy-returns-in-Debug t c = sym (ap term_view c.in-Debug.is)

pub term::Term::copy-returns-in-NoTarget : goal.term::Term::copy-returns-in-NoTarget
term::Term::copy-returns-in-NoTarget t c = sym (ap term_view c.in-NoTarget.is)

pub term::Term::copy-returns-in-Ref : goal.term::Term::copy-returns-in-Ref
term::Term::copy-returns-in-Ref t c = term_copied c.copy_reference.result c.copy_reference.ensures (view_of_ref c.args.self.now c.in-Ref.name c.in-Ref.is)

pub term::Term::copy-returns-in-Call : goal.term::Term::copy-returns-in-Call
term::Term::copy-returns-in-Call t c = term_copied c.copy_call.result c.copy_call.ensures
    (view_of_call c.args.self.now c.in-Call.name c.in-Call.args c.deref-in-Call.result.now c.in-Call.is c.deref-in-Call.ensures.value)

pub term::Term::copy-returns-in-Op : goal.term::Term::copy-returns-in-Op
term::Term::copy-returns-in-Op t c = term_copied c.copy_operator.result c.copy_operator.ensures
    (view_of_op c.args.self.now c.in-Op.op c.in-Op.operands c.deref-in-Op.result.now c.in-Op.is c.deref-in-Op.ensures.value)

pub term::Term::copy-returns-in-Declare : goal.term::Term::copy-returns-in-Declare
term::Term::copy-returns-in-Declare t c = term_copied c.copy_declaration.result c.copy_declaration.ensures
    (view_of_declare c.args.self.now c.in-Declare.decl c.deref-in-Declare.result.now c.in-Declare.is c.deref-in-Declare.ensures)

pub term::Decl::copy-returns-in-Mutex : goal.term::Decl::copy-returns-in-Mutex
term::Decl::copy-returns-in-Mutex t c = decl_copied c.copy_mutex.result c.copy_mutex.ensures (view_of_declared_mutex c.args.self.now c.in-Mutex.name c.in-Mutex.flags c.in-Mutex.is)

pub term::Decl::copy-returns-in-Event : goal.term::Decl::copy-returns-in-Event
term::Decl::copy-returns-in-Event t c = decl_copied c.copy_event.result c.copy_event.ensures (view_of_declared_event c.args.self.now c.in-Event.name c.in-Event.is)

pub term::Decl::copy-returns-in-Field : goal.term::Decl::copy-returns-in-Field
term::Decl::copy-returns-in-Field t c = decl_copied c.copy_field.result c.copy_field.ensures
    (view_of_declared_field c.args.self.now c.in-Field.region c.in-Field.flags c.in-Field.elems c.deref-in-Field.result.now c.in-Field.is c.deref-in-Field.ensures.value)

pub term::Decl::copy-returns-in-IndexField : goal.term::Decl::copy-returns-in-IndexField
term::Decl::copy-returns-in-IndexField t c = decl_copied c.copy_index_field.result c.copy_index_field.ensures
    (view_of_declared_index_field c.args.self.now c.in-IndexField.index c.in-IndexField.datum c.in-IndexField.flags c.in-IndexField.elems
    c.deref-in-IndexField.result.now c.in-IndexField.is c.deref-in-IndexField.ensures.value)

pub term::Operand::copy-returns-in-Byte : goal.term::Operand::copy-returns-in-Byte
term::Operand::copy-returns-in-Byte t c = sym (ap operand_view c.in-Byte.is)

pub term::Operand::copy-returns-in-Word : goal.term::Operand::copy-returns-in-Word
term::Operand::copy-returns-in-Word t c = sym (ap operand_view c.in-Word.is)

pub term::Operand::copy-returns-in-DWord : goal.term::Operand::copy-returns-in-DWord
term::Operand::copy-returns-in-DWord t c = sym (ap operand_view c.in-DWord.is)
