use Rattle.std.proofs.Common.{◌≡◌, ◌∙◌, ◌+◌, suc, sym, ap, arith, Some, None, slice_get, option_map}
use Rattle.std.specs.Option.{option_copied}
use Rattle.acpi_tree.specs.View.{field_view}
use Rattle.acpi_outline.specs.View.{fixed_view}
use Rattle.acpi_outline.specs.declared.node.PlacedField.{PlacedField}
use Rattle.acpi_ranges.specs.Lookup.{found_of, element_found}
use Rattle.acpi_ranges.specs.steps.Lookups.{end_behind}
use Rattle.acpi_ranges.proofs.Lookups.{are_before, is_behind, no_element, element_there}
use Rattle.acpi_ranges.proofs.lookup.element_at.Goals as goal

pub returns-in_err-field-clause-found : goal.returns-in_err-field-clause-found
returns-in_err-field-clause-found c start t =
    let count = c.fields_before-number.result in
    let fs = c.args.fields.now in
    let none : slice_get fs count ≡ None = sym c.item.ensures ∙ ap option_copied c.in_err-field.was in
    ap (option_map found_of) c.from_residual.ensures
    ∙ ap (option_map Some) (sym (no_element c.args.place c.args.end count start c.args.end (fixed_view c.args.fixed.now) c.args.lost fs t
    (are_before c.args.place start c.args.end count c.args.lost fs t c.fields_before-number.ensures) (λ u e. absurd (cc (none, e)))))

pub returns-then-field-place-clause-found : goal.returns-then-field-place-clause-found
returns-then-field-place-clause-found c start t =
    let count = c.fields_before-number.result in
    let fs = c.args.fields.now in
    let u = c.in_ok-field.field.now in
    let got : slice_get fs count ≡ Some u = sym c.item.ensures ∙ ap option_copied c.in_ok-field.was in
    let behind = is_behind c.args.place start c.args.end count c.args.lost fs u t c.fields_before-number.ensures got c.if-field-place.true in
    ap (option_map Some) (sym (no_element c.args.place c.args.end count start c.args.end (fixed_view c.args.fixed.now) c.args.lost fs t
    (are_before c.args.place start c.args.end count c.args.lost fs t c.fields_before-number.ensures)
    (λ v e. let same : u ≡ v = cc (got, e) in omega (arith, behind, ap (λ (u : PlacedField). u.place) same))))

pub returns-clause-found : goal.returns-clause-found
returns-clause-found c start t =
    let count = c.fields_before-number.result in
    let fs = c.args.fields.now in
    let u = c.in_ok-field.field.now in
    let f = fixed_view c.args.fixed.now in
    let got : slice_get fs count ≡ Some u = sym c.item.ensures ∙ ap option_copied c.in_ok-field.was in
    let there = element_there c.args.place c.args.end count f c.args.lost fs u
    (are_before c.args.place start c.args.end count c.args.lost fs t c.fields_before-number.ensures) got c.if-field-place.false in
    let one_more : count + 1 ≡ suc count = omega arith in
    let next : c.field_place.result ≡ option_map (λ (u : PlacedField). u.place) (slice_get fs (suc count)) =
    c.field_place.ensures ∙ ap (λ n. option_map (λ (u : PlacedField). u.place) (slice_get fs n)) one_more in
    let to = c.end_behind.ensures ∙ ap (λ o. end_behind o c.args.lost c.args.end) next in
    ap (λ to. Some (Some (element_found to f u.offset (field_view u.element)))) to ∙ ap (option_map Some) (sym there)
