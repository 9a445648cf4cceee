use Rattle.std.proofs.Common.{◌≡◌, ◌∙◌, ◌+◌, ◌++◌, ◌==◌, List, Option, Some, OnOk, slice_get, map, drop, append-nil, ap, sym, subst}
use Rattle.std.specs.List.{find}
use Rattle.std.specs.Option.{option_and_then}
use Rattle.acpi_conditions.specs.Entries.{Entry}
use Rattle.acpi_conditions.specs.EntryForms.{entry_view}
use Rattle.acpi_conditions.specs.declared.entry.Entry.{Entry as EntryForm}
use Rattle.acpi_entries.specs.Condition.{asked_by, entry_at}
use Rattle.acpi_survey.specs.Predefined.{predefined_count}
use Rattle.acpi_ranges.proofs.PlacedLists.{drop_mapped}
use Rattle.acpi_condition_list.specs.ConditionLists.{entry_numbered, source_literal}
use Rattle.acpi_condition_list.proofs.Ways.{found_numbered, slice_dropped}
use Rattle.acpi_condition_list.proofs.sources.put_asked_at.Goals as goal

pub returns-in-Some : goal.returns-in-Some
returns-in-Some c o =
    let s = c.args.survey.now in
    let lits = source_literal s in
    let es = s.reading.walk.entries in
    let view : EntryForm → Entry = entry_view c.entries.result.ways.now in
    let forms = c.entries.result.paths.now.entries in
    let same = ap (map view) (c.table_entries.ensures ∙ ap (drop predefined_count) c.entries-entries.ensures) ∙ sym (drop_mapped view predefined_count forms)
    ∙ ap (drop predefined_count) c.entries.ensures in
    let found = found_numbered view (λ (e : Entry). e.term.place) c.args.place c.table_entries.result.now (drop predefined_count es) c.entry_at.result same o.entries c.entry_at.ensures.first in
    let is = found ∙ ap (option_and_then (λ k. slice_get (drop predefined_count es) k)) c.in-Some.is ∙ slice_dropped predefined_count es c.in-Some.number
    ∙ ap (slice_get es) (sym c.number_in.ensures) in
    subst (λ (q : Option Entry). OnOk c.put_asks.result (map lits c.put_asks.new.sources.items ≡ map lits c.args.sources.now.items ++ map (λ l. Some l) (asked_by q))) (sym is) c.put_asks.ensures

pub returns-in-None : goal.returns-in-None
returns-in-None c o =
    let s = c.args.survey.now in
    let old = map (source_literal s) c.args.sources.now.items in
    let es = s.reading.walk.entries in
    let view : EntryForm → Entry = entry_view c.entries.result.ways.now in
    let forms = c.entries.result.paths.now.entries in
    let same = ap (map view) (c.table_entries.ensures ∙ ap (drop predefined_count) c.entries-entries.ensures) ∙ sym (drop_mapped view predefined_count forms)
    ∙ ap (drop predefined_count) c.entries.ensures in
    let found = found_numbered view (λ (e : Entry). e.term.place) c.args.place c.table_entries.result.now (drop predefined_count es) c.entry_at.result same o.entries c.entry_at.ensures.first in
    let is = found ∙ ap (option_and_then (λ k. slice_get (drop predefined_count es) k)) c.in-None.is in
    sym (append-nil old) ∙ ap (λ (q : Option Entry). old ++ map (λ l. Some l) (asked_by q)) (sym is)
