use Rattle.std.proofs.Common.{◌≡◌, ◌≤◌, length, sym, ap₂, ◌∙◌, arith, false}
use Rattle.std.specs.Cmp.Derive.Mapped.{pointwise-map}
use Rattle.acpi_entries.specs.ConditionViews.{literal_view}
use Rattle.acpi_entries.specs.declared.condition.PlacedLiteral.{PlacedLiteral}
use Rattle.acpi_same.specs.steps.Equality.{literal_eq}
use Rattle.acpi_tree.proofs.Alike.{unlike_at, alike_all}
use Rattle.acpi_same.proofs.entries.are_same_literals.Goals as goal

pub returns-then-not-is_same_literal : goal.returns-then-not-is_same_literal
returns-then-not-is_same_literal c =
    let same : length c.args.one.now ≡ length c.args.other.now = grind arith in
    let no : literal_eq (literal_view c.index-one-i.result.literal) (literal_view c.index-other-i.result.literal) ≡ false =
    ap₂ (λ (x y : PlacedLiteral). literal_eq (literal_view x.literal) (literal_view y.literal)) c.index-one-i.is c.index-other-i.is
    ∙ (sym c.is_same_literal.ensures ∙ c.if-not-is_same_literal.true) in
    sym (pointwise-map (λ (l : PlacedLiteral). literal_view l.literal) literal_eq c.args.one.now c.args.other.now
    ∙ unlike_at (λ x y. literal_eq (literal_view x.literal) (literal_view y.literal)) c.args.one.now c.args.other.now c.loop-i.i _ _ c.loop-i-test.true same c.index-one-i.is c.index-other-i.is no c.loop-i.invariant)

pub returns : goal.returns
returns c =
    let same : length c.args.one.now ≡ length c.args.other.now = grind arith in
    let all : length c.args.one.now ≤ c.loop-i.i = grind arith in
    sym (pointwise-map (λ (l : PlacedLiteral). literal_view l.literal) literal_eq c.args.one.now c.args.other.now
    ∙ alike_all (λ x y. literal_eq (literal_view x.literal) (literal_view y.literal)) c.args.one.now c.args.other.now c.loop-i.i all same c.loop-i.invariant)
