use Rattle.std.proofs.Common.{◌≡◌, ◌≤◌, length, sym, ◌∙◌, arith, false}
use Rattle.std.specs.Cmp.Derive.Mapped.{pointwise-map}
use Rattle.acpi_entries.specs.ConditionViews.{link_view}
use Rattle.acpi_same.specs.steps.Equality.{link_eq}
use Rattle.acpi_tree.proofs.Alike.{unlike_at, alike_all}
use Rattle.acpi_same.proofs.entries.are_same_links.Goals as goal

pub returns-then-not-is_same_link : goal.returns-then-not-is_same_link
returns-then-not-is_same_link c =
    let same : length c.args.one.now ≡ length c.args.other.now = grind arith in
    let no : link_eq (link_view c.index-one-i.result) (link_view c.index-other-i.result) ≡ false = sym c.is_same_link.ensures ∙ c.if-not-is_same_link.true in
    sym (pointwise-map link_view link_eq c.args.one.now c.args.other.now
    ∙ unlike_at (λ x y. link_eq (link_view x) (link_view y)) c.args.one.now c.args.other.now c.loop-i.i _ _ c.loop-i-test.true same c.index-one-i.is c.index-other-i.is no c.loop-i.invariant)

pub returns : goal.returns
returns c =
    let same : length c.args.one.now ≡ length c.args.other.now = grind arith in
    let all : length c.args.one.now ≤ c.loop-i.i = grind arith in
    sym (pointwise-map link_view link_eq c.args.one.now c.args.other.now
    ∙ alike_all (λ x y. link_eq (link_view x) (link_view y)) c.args.one.now c.args.other.now c.loop-i.i all same c.loop-i.invariant)
