use Rattle.std.proofs.Common.{◌∙◌, ◌<◌, ℕ, Option, ap, arith, length, map, sym}
use Rattle.std.proofs.lemmas.List.{get_or-map}
use Rattle.acpi_conditions.specs.Entries.{Path}
use Rattle.acpi_entries.specs.declared.body.MethodBody.{MethodBody}
use Rattle.acpi_ranges.proofs.PlacedLists.{length_mapped}
use Rattle.acpins_survey_json.specs.JsonBodies.{body_values}
use Rattle.acpi_conditions.specs.ByPath.{lent_pair}
use Rattle.acpins_survey_reasons.specs.Numbered.{IsBodyAt}
use Rattle.acpins_survey_json.proofs.ZippedLines.{lines_all_put, lines_more, no_lines}
use Rattle.acpins_survey_json.proofs.bodies.put_bodies.Goals as goal

pub loop-numbered-init : goal.loop-numbered-init
loop-numbered-init c = λ o.
    no_lines (λ (x : Path × ℕ) (b : Option MethodBody). IsBodyAt c.args.survey.now x.1 b) (body_values c.args.survey.now) (map lent_pair c.args.order.now) c.put.new.self

pub loop-numbered-preserved : goal.loop-numbered-preserved
loop-numbered-preserved c = λ o.
    let s = c.args.survey.now in
    let xs = c.args.order.now in
    let i = c.loop-numbered.numbered-index in
    let w = c.numbered-item.result in
    let inside : i < length (map lent_pair xs) = omega (arith, c.loop-numbered-test.true, length_mapped lent_pair xs) in
    lines_more (λ (x : Path × ℕ) (b : Option MethodBody). IsBodyAt s x.1 b) (body_values s) (map lent_pair xs) i (lent_pair w) (lent_pair w) c.in_ok-body.body
    c.loop-numbered.is_first _ c.put.new.self c.loop-numbered.text _ inside
    (ap lent_pair c.numbered-item.is ∙ sym (get_or-map lent_pair xs i w (lent_pair w) c.loop-numbered-test.true)) (c.in_ok-body.ensures o.tile) (c.loop-numbered.invariant o)
    c.in_ok-is_first.ensures

pub returns : goal.returns
returns c = λ o.
    let s = c.args.survey.now in
    lines_all_put (λ (x : Path × ℕ) (b : Option MethodBody). IsBodyAt s x.1 b) (body_values s) (map lent_pair c.args.order.now) c.loop-numbered.numbered-index
    c.loop-numbered.is_first c.args.text.now c.put.new.self c.loop-numbered.text _
    (omega (arith, c.loop-numbered-test.false, length_mapped lent_pair c.args.order.now)) c.put.ensures (c.loop-numbered.invariant o) c.put_lines_end.ensures
