use Rattle.std.proofs.Common.{◌≡◌, ◌∙◌, ◌+◌, ◌++◌, ◌∷◌, [], ℕ, Option, Some, option_map, slice_get, map, drop, append_assoc, refl, ap, sym}
use Rattle.std.specs.Option.{option_and_then}
use Rattle.std.proofs.lemmas.List.{map-append}
use Rattle.acpi_name.specs.Names.{NameParts}
use Rattle.acpi_conditions.specs.Entries.{Entry}
use Rattle.acpi_entries.specs.Condition.{literal_at, needs}
use Rattle.acpi_condition_list.specs.ConditionLists.{name_asked, source_literal}
use Rattle.acpi_condition_list.specs.steps.Growing.{needs_literal}
use Rattle.acpi_condition_list.proofs.Ways.{dropped}
use Rattle.acpi_condition_list.proofs.sources.put_needs.Goals as goal

pub each-preserved : goal.each-preserved
each-preserved c e at names =
    let lits = source_literal c.args.survey.now in
    let i = c.each.name in
    let old = c.each.sources.items in
    let x = dropped c.args.names.now i c.each-test.true in
    let asked = λ (n : NameParts). literal_at e.term.place (needs n) in
    let is = ap (option_and_then (name_asked i)) at ∙ ap (λ ns. option_map asked (slice_get ns i)) names ∙ ap (option_map asked) x.1 in
    let rest = map (needs_literal e) (drop (i + 1) c.args.names.now) in
    ap (λ s. map lits s ++ rest) c.in_ok-push.ensures.items
    ∙ ap (λ s. s ++ rest) (map-append lits old _ ∙ ap (λ o. map lits old ++ o ∷ []) is)
    ∙ append_assoc (map lits old) (needs_literal e x.0 ∷ []) rest
    ∙ ap (λ ns. map lits old ++ map (needs_literal e) ns) (sym x.2)
    ∙ c.each.invariant e at names
