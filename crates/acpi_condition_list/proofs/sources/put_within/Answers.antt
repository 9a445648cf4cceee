use Rattle.std.proofs.Common.{◌≡◌, ◌∙◌, ◌++◌, ◌∷◌, [], ◌<◌, ℕ, List, Option, Some, OnOk, slice_get, length, map, ap, sym, subst}
use Rattle.std.specs.Option.{option_and_then}
use Rattle.acpi_conditions.specs.Entries.{Path}
use Rattle.acpi_entries.specs.Condition.{PlacedParts, asked_within, entry_at}
use Rattle.acpi_ranges.proofs.PlacedLists.{length_mapped}
use Rattle.acpi_survey.specs.declared.remarks.OpenedScope.{OpenedScope as ScopeForm}
use Rattle.acpi_condition_list.specs.ConditionLists.{source_literal}
use Rattle.acpi_condition_list.proofs.Ways.{found_numbered, target_said}
use Rattle.acpi_condition_list.proofs.sources.put_within.Goals as goal

pub returns-in-Some : goal.returns-in-Some
returns-in-Some c o =
    let s = c.args.survey.now in
    let lits = source_literal s in
    let pair : ScopeForm → ℕ × Path = λ o. (o.place, o.path) in
    let opened = s.reading.opened in
    let forms = c.opened.result.now in
    let k = c.in-Some.number in
    let found = found_numbered pair (λ (o : ℕ × Path). o.0) c.args.place forms opened c.scope_at.result c.opened.ensures o.opened c.scope_at.ensures.first in
    let is = found ∙ ap (option_and_then (λ k. slice_get opened k)) c.in-Some.is in
    let within : k < length opened = subst (λ (n : ℕ). k < n) (sym (length_mapped pair forms) ∙ ap length c.opened.ensures) c.in-Some.ensures.within in
    subst (λ (t : List (Option PlacedParts)). OnOk c.put_target.result (map lits c.put_target.new.sources.items ≡ map lits c.args.sources.now.items ++ t))
    (target_said c.args.place opened k (entry_at s.reading.walk.entries c.args.place) within is) c.put_target.ensures

pub returns-in-None : goal.returns-in-None
returns-in-None c o =
    let s = c.args.survey.now in
    let lits = source_literal s in
    let pair : ScopeForm → ℕ × Path = λ o. (o.place, o.path) in
    let opened = s.reading.opened in
    let asks = entry_at s.reading.walk.entries c.args.place in
    let found = found_numbered pair (λ (o : ℕ × Path). o.0) c.args.place c.opened.result.now opened c.scope_at.result c.opened.ensures o.opened c.scope_at.ensures.first in
    let is = found ∙ ap (option_and_then (λ k. slice_get opened k)) c.in-None.is in
    subst (λ (q : Option (ℕ × Path)). OnOk c.put_asked_at.result (map lits c.put_asked_at.new.sources.items ≡ map lits c.args.sources.now.items
    ++ map (λ l. Some l) (asked_within c.args.place q asks))) (sym is) (c.put_asked_at.ensures o)
