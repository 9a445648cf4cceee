use Rattle.std.proofs.Common.{List, ◌++◌, slice_get, ap, ◌∙◌}
use Rattle.std.specs.Option.{option_map}
use Rattle.acpi_conditions.specs.Entries.{Entry}
use Rattle.acpi_conditions.specs.Walk.{Walk}
use Rattle.acpi_conditions.specs.steps.Moves.{with_certain, gone_out}
use Rattle.acpi_conditions.specs.steps.Settled.{certain_there}
use Rattle.acpi_conditions.proofs.WalkSteps.{on_ok_map, left_term_is}
use Rattle.acpi_conditions.proofs.SettledEntries.{gone_entries}
use Rattle.acpi_conditions.proofs.walk.Walk.leave_term.Goals as goal

pub returns : goal.returns
returns c =
    let w : Walk = c.args.self.now in
    let b = c.behind_term-behind.result in
    on_ok_map c.certify_entry.result _ _
    (λ e. e ∙ ap (λ (w : Walk). with_certain (certain_there b.settled (option_map (λ e. e.path) (slice_get w.entries b.number)) ++ w.known.certain) w) c.in_ok-go_out.ensures
    ∙ ap (λ (es : List Entry). with_certain (certain_there b.settled (option_map (λ e. e.path) (slice_get es b.number)) ++ (gone_out b.keeps w.packages w).known.certain) (gone_out b.keeps w.packages w)) (gone_entries b.keeps w.packages w)
    ∙ left_term_is w.packages w b.keeps (certain_there b.settled (option_map (λ e. e.path) (slice_get w.entries b.number))) c.behind_term-behind.ensures)
    c.certify_entry.ensures
