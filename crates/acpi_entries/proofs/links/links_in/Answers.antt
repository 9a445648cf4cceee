use Rattle.std.proofs.Common.{◌≡◌, ◌∙◌, List, Some, IfOk, sym, ap, subst, slice_get, map}
use Rattle.std.specs.Option.{option_map}
use Rattle.acpi_conditions.specs.EntryForms.{entry_view}
use Rattle.acpi_conditions.specs.Entries.{Entry}
use Rattle.acpi_entries.specs.EntryLinks.{LinkParts, links_of_part, seen_links}
use Rattle.acpi_entries.specs.ConditionViews.{link_views}
use Rattle.acpi_ranges.specs.Lookup.{found_of}
use Rattle.acpi_ranges.proofs.DeclaringParts.{part_none}
use Rattle.acpi_entries.proofs.Linking.{no_part, alias_linked, seen_linked}
use Rattle.acpi_entries.proofs.links.links_in.Goals as goal

pub returns-in_default-part : goal.returns-in_default-part
returns-in_default-part c order found is =
    let s = c.args.survey.now in
    let es = s.reading.walk.entries in
    ap link_views c.new-in_default-part.ensures.items
    ∙ sym (ap (links_of_part es s.reading.sources (slice_get es c.args.number)) (part_none c.args.part found is c.in_default-part.is)
    ∙ no_part es s.reading.sources (slice_get es c.args.number))

pub returns-in-Some-alias_source : goal.returns-in-Some-alias_source
returns-in-Some-alias_source c order found is =
    let s = c.args.survey.now in
    let es = s.reading.walk.entries in
    let e = entry_view c.entries-entries.result.ways.now c.in-Some.entry.now in
    let e_is : Some e ≡ slice_get es c.args.number = c.in-Some.ensures ∙ ap (λ (es : List Entry). slice_get es c.args.number) c.entries-entries.ensures in
    subst (λ (ls : List LinkParts). IfOk c.alias_links.result (λ v. link_views v.items ≡ ls))
    (alias_linked es s.reading.sources (slice_get es c.args.number) e (found_of c.in-Some-part.part) found c.in-Some-alias_source.source.now e_is
    (sym (ap (option_map found_of) c.in-Some-part.is) ∙ is) c.in-Some-alias_source.ensures) (c.alias_links.ensures order)

pub returns-in_ok-searched_names-in-None : goal.returns-in_ok-searched_names-in-None
returns-in_ok-searched_names-in-None c order found is =
    let s = c.args.survey.now in
    let es = s.reading.walk.entries in
    let forms = map (entry_view c.entries-entries.result.ways.now) c.entries-entries.result.paths.now.entries in
    let e = entry_view c.entries-entries.result.ways.now c.in-Some.entry.now in
    let e_is : Some e ≡ slice_get es c.args.number = c.in-Some.ensures ∙ ap (λ (es : List Entry). slice_get es c.args.number) c.entries-entries.ensures in
    let names = map (λ n. n.now) c.in_ok-searched_names-in-None.field-0.items in
    subst (λ (ls : List LinkParts). IfOk c.seen_links.result (λ v. link_views v.items ≡ ls))
    (ap (λ ns. seen_links forms e (map (λ n. n.now) ns)) c.deref.ensures.value ∙ ap (λ (es : List Entry). seen_links es e names) c.entries-entries.ensures
    ∙ seen_linked es s.reading.sources (slice_get es c.args.number) e (found_of c.in-Some-part.part) found names e_is
    (sym (ap (option_map found_of) c.in-Some-part.is) ∙ is) c.in-None.ensures c.in_ok-searched_names-in-None.ensures) c.seen_links.ensures
