use Rattle.std.proofs.Common.{◌≡◌, ◌≤◌, ◌∙◌, ℕ, length, sym, arith, false}
use Rattle.std.specs.Borrow.{Bor}
use Rattle.acpi_conditions.specs.ByPath.{lent_pair}
use Rattle.acpi_conditions.specs.Entries.{Path}
use Rattle.acpi_tree.proofs.Alike.{unlike_at, alike_all}
use Rattle.acpi_same.specs.Same.{EntryParts, said}
use Rattle.acpi_same.specs.steps.Equality.{entry_eq}
use Rattle.acpi_same.proofs.Lists.{pointwise_maps}
use Rattle.acpi_same.proofs.same.are_same_entries.Goals as goal

pub returns-then-not-branch : goal.returns-then-not-branch
returns-then-not-branch c = λ o n.
    let f : Bor Path × ℕ → EntryParts = λ x. said c.args.old.survey.now c.args.old.bodies.now (lent_pair x) in
    let g : Bor Path × ℕ → EntryParts = λ x. said c.args.new.survey.now c.args.new.bodies.now (lent_pair x) in
    let same : length c.args.old_order.now ≡ length c.args.new_order.now = grind arith in
    let no : entry_eq (f c.index-old_order-i.result) (g c.index-new_order-i.result) ≡ false = sym (c.in_ok-is_same_entry.ensures o n) ∙ c.if-not-branch.true in
    sym (pointwise_maps f g entry_eq c.args.old_order.now c.args.new_order.now
    ∙ unlike_at (λ x y. entry_eq (f x) (g y)) c.args.old_order.now c.args.new_order.now c.loop-i.i _ _ c.loop-i-test.true same c.index-old_order-i.is c.index-new_order-i.is no (c.loop-i.invariant o n))

pub returns : goal.returns
returns c = λ o n.
    let f : Bor Path × ℕ → EntryParts = λ x. said c.args.old.survey.now c.args.old.bodies.now (lent_pair x) in
    let g : Bor Path × ℕ → EntryParts = λ x. said c.args.new.survey.now c.args.new.bodies.now (lent_pair x) in
    let same : length c.args.old_order.now ≡ length c.args.new_order.now = grind arith in
    let all : length c.args.old_order.now ≤ c.loop-i.i = grind arith in
    sym (pointwise_maps f g entry_eq c.args.old_order.now c.args.new_order.now
    ∙ alike_all (λ x y. entry_eq (f x) (g y)) c.args.old_order.now c.args.new_order.now c.loop-i.i all same (c.loop-i.invariant o n))
