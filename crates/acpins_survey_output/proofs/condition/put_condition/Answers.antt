use Rattle.std.proofs.Common.{◌≤◌, ◌∙◌, ◌++◌, ap, arith, codes, length, take_all, ℕ, List}
use Rattle.std.proofs.lemmas.Grind.{common_steps}
use Rattle.std.specs.List.{flat_map}
use Rattle.acpi_text.proofs.Pieces.{next_said}
use Rattle.acpi_entries.specs.ConditionViews.{placed_view}
use Rattle.acpi_entries.specs.declared.condition.PlacedLiteral.{PlacedLiteral}
use Rattle.acpins_survey_output.specs.Conditions.{literal_text}
use Rattle.acpins_survey_output.proofs.Separating.{some_condition}
use Rattle.acpins_survey_output.proofs.condition.put_condition.Goals as goal

abbrev behind : PlacedLiteral → List ℕ
behind l = codes " " ++ literal_text (placed_view l)

pub returns : goal.returns
returns c =
    let ls = c.args.condition.now in
    let some : 1 ≤ length ls = grind (arith, common_steps) in
    rw (some_condition ls some)
    (next_said c.args.text.now (codes " ?") (flat_map behind ls) _ _ c.put.ensures
    (c.loop-literal.invariant ∙ ap (λ xs. c.put.new.self ++ flat_map behind xs) (take_all c.loop-literal.literal-index ls c.loop-literal-test.false)))
