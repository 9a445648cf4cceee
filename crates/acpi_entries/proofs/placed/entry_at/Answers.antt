use Rattle.std.proofs.Common.{◌≡◌, ◌∙◌, ◌==◌, List, sym, ap, subst, drop, map, option_copied}
use Rattle.std.specs.List.{find}
use Rattle.std.specs.List.Sorted.{IsNonDecreasingBy}
use Rattle.acpi_conditions.specs.EntryForms.{entry_view}
use Rattle.acpi_conditions.specs.declared.entry.Entry.{Entry as EntryForm}
use Rattle.acpi_survey.specs.Predefined.{predefined_count}
use Rattle.acpi_ranges.proofs.PlacedLists.{found_mapped, copied_mapped, drop_mapped}
use Rattle.acpi_entries.proofs.placed.entry_at.Goals as goal

pub returns : goal.returns
returns c sorted =
    let view = entry_view c.args.entries.ways.now in
    let forms = c.args.entries.paths.now.entries in
    let here : c.table_entries.result.now ≡ drop predefined_count forms = c.table_entries.ensures ∙ ap (drop predefined_count) c.entries.ensures in
    sym (copied_mapped view c.first_at.result)
    ∙ sym (found_mapped view (λ e. e.term.place) c.args.place (drop predefined_count forms) (drop predefined_count (map view forms)) (option_copied c.first_at.result)
    (sym (drop_mapped view predefined_count forms)) sorted
    (λ ordered. subst (λ (es : List EntryForm). IsNonDecreasingBy (λ e. e.term.place) es → option_copied c.first_at.result ≡ find (λ e. e.term.place == c.args.place) es) here c.first_at.ensures ordered))
