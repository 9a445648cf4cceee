use Rattle.std.proofs.Common.{◌≡◌, ◌≤◌, length, refl, sym, ◌∙◌, arith, false}
use Rattle.acpi_tree.specs.TermView.{term_view, operand_view}
use Rattle.acpi_tree.specs.steps.TermEquality.{term_eq}
use Rattle.acpi_tree.proofs.Alike.{unlike_lengths, unlike_at, alike_all}
use Rattle.acpi_tree.proofs.TermLists.{terms_alike, same_operands_alike}
use Rattle.acpi_tree.proofs.DeclarationForms.{other_form}
use Rattle.acpi_tree.proofs.TermForms.{view_of_declared_name, view_of_declared_create, view_of_declared_create_field, view_of_declared_mutex}
use Rattle.acpi_tree.proofs.TermForms.{view_of_declared_event, view_of_declared_region, view_of_declared_field, view_of_declared_index_field}
use Rattle.acpi_tree.proofs.TermForms.{view_of_declared_bank_field}
use Rattle.acpi_tree.proofs.term_same.+same_term.Goals as goal

pub same_terms-returns-then-a-b : goal.same_terms-returns-then-a-b
same_terms-returns-then-a-b t c =
    let other : length c.args.a.now ≡ length c.args.b.now → ⊥ = λ h. c.if-a-b.true h in
    sym (terms_alike c.args.a.now c.args.b.now ∙ unlike_lengths (λ x y. term_eq (term_view x) (term_view y)) c.args.a.now c.args.b.now other)

pub same_terms-returns-then-not-same_term : goal.same_terms-returns-then-not-same_term
same_terms-returns-then-not-same_term t c =
    let same : length c.args.a.now ≡ length c.args.b.now = grind arith in
    let no : term_eq (term_view c.index-a-i.result) (term_view c.index-b-i.result) ≡ false = sym c.same_term.ensures ∙ c.if-not-same_term.true in
    sym (terms_alike c.args.a.now c.args.b.now
    ∙ unlike_at (λ x y. term_eq (term_view x) (term_view y)) c.args.a.now c.args.b.now c.loop-i.i _ _ c.loop-i-test.true same c.index-a-i.is c.index-b-i.is no c.loop-i.invariant)

pub same_terms-returns : goal.same_terms-returns
same_terms-returns t c =
    let same : length c.args.a.now ≡ length c.args.b.now = grind arith in
    let all : length c.args.a.now ≤ c.loop-i.i = grind arith in
    sym (terms_alike c.args.a.now c.args.b.now
    ∙ alike_all (λ x y. term_eq (term_view x) (term_view y)) c.args.a.now c.args.b.now c.loop-i.i all same c.loop-i.invariant)

pub same_operands-returns-then-a-b : goal.same_operands-returns-then-a-b
same_operands-returns-then-a-b t c =
    let other : length c.args.a.now ≡ length c.args.b.now → ⊥ = λ h. c.if-a-b.true h in
    sym (same_operands_alike c.args.a.now c.args.b.now ∙ unlike_lengths (λ x y. term_eq (operand_view x) (operand_view y)) c.args.a.now c.args.b.now other)

pub same_operands-returns-then-not-same_operand : goal.same_operands-returns-then-not-same_operand
same_operands-returns-then-not-same_operand t c =
    let same : length c.args.a.now ≡ length c.args.b.now = grind arith in
    let no : term_eq (operand_view c.index-a-i.result) (operand_view c.index-b-i.result) ≡ false = sym c.same_operand.ensures ∙ c.if-not-same_operand.true in
    sym (same_operands_alike c.args.a.now c.args.b.now
    ∙ unlike_at (λ x y. term_eq (operand_view x) (operand_view y)) c.args.a.now c.args.b.now c.loop-i.i _ _ c.loop-i-test.true same c.index-a-i.is c.index-b-i.is no c.loop-i.invariant)

pub same_operands-returns : goal.same_operands-returns
same_operands-returns t c =
    let same : length c.args.a.now ≡ length c.args.b.now = grind arith in
    let all : length c.args.a.now ≤ c.loop-i.i = grind arith in
    sym (same_operands_alike c.args.a.now c.args.b.now
    ∙ alike_all (λ x y. term_eq (operand_view x) (operand_view y)) c.args.a.now c.args.b.now c.loop-i.i all same c.loop-i.invariant)

-- Declarations of different forms.

pub same_decl-returns-in_default : goal.same_decl-returns-in_default
same_decl-returns-in_default t c = other_form c.args.a.now c.args.b.now
    (view_of_declared_name c.args.a.now c.in_default.field-0-0 c.in_default.field-1-0 c.in_default.field-1-0.value c.in_default.is-0 refl)
    (λ w. c.in_default.not-Name-1 w.0 w.1.0 w.1.1)

pub same_decl-returns-in_default-2 : goal.same_decl-returns-in_default-2
same_decl-returns-in_default-2 t c = other_form c.args.a.now c.args.b.now
    (view_of_declared_create c.args.a.now c.in_default.field-0-0 c.in_default.field-1-0 c.in_default.field-2-0 c.in_default.field-3-0 c.in_default.field-1-0.value c.in_default.field-2-0.value c.in_default.is-0 refl refl)
    (λ w. c.in_default.not-Create-1 w.0 w.1.0 w.1.1.0 w.1.1.1.0 w.1.1.1.1)

pub same_decl-returns-in_default-3 : goal.same_decl-returns-in_default-3
same_decl-returns-in_default-3 t c = other_form c.args.a.now c.args.b.now
    (view_of_declared_create_field c.args.a.now c.in_default.field-0-0 c.in_default.field-1-0 c.in_default.field-2-0 c.in_default.field-3-0 c.in_default.field-0-0.value c.in_default.field-1-0.value c.in_default.field-2-0.value c.in_default.is-0 refl refl refl)
    (λ w. c.in_default.not-CreateField-1 w.0 w.1.0 w.1.1.0 w.1.1.1.0 w.1.1.1.1)

pub same_decl-returns-in_default-4 : goal.same_decl-returns-in_default-4
same_decl-returns-in_default-4 t c = other_form c.args.a.now c.args.b.now
    (view_of_declared_mutex c.args.a.now c.in_default.field-0-0 c.in_default.field-1-0 c.in_default.is-0)
    (λ w. c.in_default.not-Mutex-1 w.0 w.1.0 w.1.1)

pub same_decl-returns-in_default-5 : goal.same_decl-returns-in_default-5
same_decl-returns-in_default-5 t c = other_form c.args.a.now c.args.b.now
    (view_of_declared_event c.args.a.now c.in_default.field-0-0 c.in_default.is-0)
    (λ w. c.in_default.not-Event-1 w.0 w.1)

pub same_decl-returns-in_default-6 : goal.same_decl-returns-in_default-6
same_decl-returns-in_default-6 t c = other_form c.args.a.now c.args.b.now
    (view_of_declared_region c.args.a.now c.in_default.field-0-0 c.in_default.field-1-0 c.in_default.field-2-0 c.in_default.field-3-0 c.in_default.field-2-0.value c.in_default.field-3-0.value c.in_default.is-0 refl refl)
    (λ w. c.in_default.not-Region-1 w.0 w.1.0 w.1.1.0 w.1.1.1.0 w.1.1.1.1)

pub same_decl-returns-in_default-7 : goal.same_decl-returns-in_default-7
same_decl-returns-in_default-7 t c = other_form c.args.a.now c.args.b.now
    (view_of_declared_field c.args.a.now c.in_default.field-0-0 c.in_default.field-1-0 c.in_default.field-2-0 c.in_default.field-2-0.items c.in_default.is-0 refl)
    (λ w. c.in_default.not-Field-1 w.0 w.1.0 w.1.1.0 w.1.1.1)

pub same_decl-returns-in_default-8 : goal.same_decl-returns-in_default-8
same_decl-returns-in_default-8 t c = other_form c.args.a.now c.args.b.now
    (view_of_declared_index_field c.args.a.now c.in_default.field-0-0 c.in_default.field-1-0 c.in_default.field-2-0 c.in_default.field-3-0 c.in_default.field-3-0.items c.in_default.is-0 refl)
    (λ w. c.in_default.not-IndexField-1 w.0 w.1.0 w.1.1.0 w.1.1.1.0 w.1.1.1.1)

pub same_decl-returns-in_default-9 : goal.same_decl-returns-in_default-9
same_decl-returns-in_default-9 t c = other_form c.args.a.now c.args.b.now
    (view_of_declared_bank_field c.args.a.now c.in_default.field-0-0 c.in_default.field-1-0 c.in_default.field-2-0 c.in_default.field-3-0 c.in_default.field-4-0 c.in_default.field-2-0.value c.in_default.field-4-0.items c.in_default.is-0 refl refl)
    (λ w. c.in_default.not-BankField-1 w.0 w.1.0 w.1.1.0 w.1.1.1.0 w.1.1.1.1.0 w.1.1.1.1.1)
