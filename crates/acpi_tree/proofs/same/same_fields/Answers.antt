use Rattle.std.proofs.Common.{◌≡◌, ◌≤◌, length, sym, ◌∙◌, arith, false}
use Rattle.std.specs.Cmp.Derive.Mapped.{pointwise-map}
use Rattle.acpi_tree.specs.View.{field_view}
use Rattle.acpi_tree.specs.steps.Equality.{field_eq}
use Rattle.acpi_tree.proofs.Alike.{unlike_at, alike_all}
use Rattle.acpi_tree.proofs.same.same_fields.Goals as goal

pub returns-then-not-same_field : goal.returns-then-not-same_field
returns-then-not-same_field c =
    let same : length c.args.a.now ≡ length c.args.b.now = grind arith in
    let no : field_eq (field_view c.index-a-i.result) (field_view c.index-b-i.result) ≡ false = sym c.same_field.ensures ∙ c.if-not-same_field.true in
    sym (pointwise-map field_view field_eq c.args.a.now c.args.b.now
    ∙ unlike_at (λ x y. field_eq (field_view x) (field_view y)) c.args.a.now c.args.b.now c.loop-i.i _ _ c.loop-i-test.true same c.index-a-i.is c.index-b-i.is no c.loop-i.invariant)

pub returns : goal.returns
returns c =
    let same : length c.args.a.now ≡ length c.args.b.now = grind arith in
    let all : length c.args.a.now ≤ c.loop-i.i = grind arith in
    sym (pointwise-map field_view field_eq c.args.a.now c.args.b.now
    ∙ alike_all (λ x y. field_eq (field_view x) (field_view y)) c.args.a.now c.args.b.now c.loop-i.i all same c.loop-i.invariant)
