use Rattle.std.proofs.Common.{◌∙◌, ◌++◌, ap, sym, subst, take_all}
use Rattle.std.specs.List.{flat_map}
use Rattle.acpi_condition_list.specs.ConditionLists.{IsCondition, condition_numbered}
use Rattle.acpi_condition_list.specs.declared.list.ConditionedEntry.{ConditionedEntry}
use Rattle.acpins_survey_output.specs.Listings.{numbered_line}
use Rattle.acpins_survey_output.proofs.Lines.{lines_more}
use Rattle.acpins_survey_output.proofs.listing.put_entries.Goals as goal

pub loop-entry-preserved : goal.loop-entry-preserved
loop-entry-preserved c = λ steps o same all.
    let s = c.args.survey.now in
    let i = c.loop-entry.entry-index in
    let asked = subst (λ (e : ConditionedEntry). IsCondition s steps e.condition (condition_numbered s e.number)) (sym c.entry-item.is) (all i c.entry-item.result c.loop-entry-test.true) in
    lines_more (λ (e : ConditionedEntry). numbered_line s e.path.now e.number) c.args.entries.now i c.entry-item.result c.args.text.now c.loop-entry.text c.put_conditioned.new.text
    c.loop-entry-test.true c.entry-item.is (c.loop-entry.invariant steps o same all) (c.in_ok-put_conditioned.ensures steps o same asked)

pub returns : goal.returns
returns c = λ steps o same all.
    let s = c.args.survey.now in
    let old = c.args.text.now in
    c.loop-entry.invariant steps o same all
    ∙ ap (λ es. old ++ flat_map (λ (e : ConditionedEntry). numbered_line s e.path.now e.number) es) (take_all c.loop-entry.entry-index c.args.entries.now c.loop-entry-test.false)
