use Rattle.std.proofs.Common.{◌≡◌, ◌≤◌, length, sym, ◌∙◌, arith, false}
use Rattle.acpi_tree.specs.View.{elem_view}
use Rattle.acpi_tree.specs.steps.Equality.{elem_eq}
use Rattle.acpi_tree.proofs.Alike.{unlike_lengths, unlike_at, alike_all, elems_alike}
use Rattle.acpi_tree.proofs.same.+same.Goals as goal

pub same_elems-returns-then-a-b : goal.same_elems-returns-then-a-b
same_elems-returns-then-a-b t c =
    let other : length c.args.a.now ≡ length c.args.b.now → ⊥ = λ h. c.if-a-b.true h in
    sym (elems_alike c.args.a.now c.args.b.now ∙ unlike_lengths (λ x y. elem_eq (elem_view x) (elem_view y)) c.args.a.now c.args.b.now other)

pub same_elems-returns-then-not-same_elem : goal.same_elems-returns-then-not-same_elem
same_elems-returns-then-not-same_elem t c =
    let same : length c.args.a.now ≡ length c.args.b.now = grind arith in
    let no : elem_eq (elem_view c.index-a-i.result) (elem_view c.index-b-i.result) ≡ false = sym c.same_elem.ensures ∙ c.if-not-same_elem.true in
    sym (elems_alike c.args.a.now c.args.b.now
    ∙ unlike_at (λ x y. elem_eq (elem_view x) (elem_view y)) c.args.a.now c.args.b.now c.loop-i.i _ _ c.loop-i-test.true same c.index-a-i.is c.index-b-i.is no c.loop-i.invariant)

pub same_elems-returns : goal.same_elems-returns
same_elems-returns t c =
    let same : length c.args.a.now ≡ length c.args.b.now = grind arith in
    let all : length c.args.a.now ≤ c.loop-i.i = grind arith in
    sym (elems_alike c.args.a.now c.args.b.now
    ∙ alike_all (λ x y. elem_eq (elem_view x) (elem_view y)) c.args.a.now c.args.b.now c.loop-i.i all same c.loop-i.invariant)
