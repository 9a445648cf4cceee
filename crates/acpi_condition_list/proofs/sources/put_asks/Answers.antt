use Rattle.std.proofs.Common.{◌≡◌, ◌∙◌, ◌++◌, List, Some, option_map, slice_get, map, refl, ap, sym}
use Rattle.acpi_name.specs.Names.{NameParts}
use Rattle.acpi_name.specs.Paths.{parent_of}
use Rattle.acpi_conditions.specs.Entries.{Entry}
use Rattle.acpi_conditions.specs.EntryForms.{entry_view}
use Rattle.acpi_entries.specs.Condition.{asked_by, free, has, literal_at, needs}
use Rattle.acpi_condition_list.specs.ConditionLists.{source_literal}
use Rattle.acpi_condition_list.specs.declared.sources.LiteralSource.TheVariants as sources
use Rattle.acpi_condition_list.proofs.Ways.{asks_put}
use Rattle.acpi_condition_list.proofs.sources.put_asks.Goals as goal

pub returns : goal.returns
returns c =
    let s = c.args.survey.now in
    let k = c.args.number in
    let lits = source_literal s in
    let e = entry_view c.entries.result.ways.now c.in-Some.entry.now in
    let at : slice_get s.reading.walk.entries k ≡ Some e =
    sym (ap (λ (es : List Entry). slice_get es k) c.entries.ensures) ∙ sym c.entry_numbered.ensures ∙ ap (option_map (λ f. entry_view c.entries.result.ways.now f.now)) c.in-Some.is in
    let names = ap (λ ns. ns) c.deref.ensures.value in
    let asked = λ (n : NameParts). literal_at e.term.place (needs n) in
    asks_put lits e.asks.has e.asks.no (sources.Has k) (sources.No k) (literal_at e.term.place (has (parent_of e.path))) (literal_at e.term.place (free e.path)) asked e.asks.needs
    c.args.sources.now.items c.put_if.new.sources.items c.put_if-2.new.sources.items c.put_needs.new.sources.items
    (ap (option_map (λ (e : Entry). literal_at e.term.place (has (parent_of e.path)))) at)
    (ap (option_map (λ (e : Entry). literal_at e.term.place (free e.path))) at)
    c.in_ok-put_if.ensures c.in_ok-put_if-2.ensures
    (c.in_ok-put_needs.ensures e at (sym names) ∙ ap (λ ns. map lits c.put_if-2.new.sources.items ++ map (λ n. Some (asked n)) ns) names)
    ∙ ap (λ o. map lits c.args.sources.now.items ++ map (λ l. Some l) (asked_by o)) (sym at)
