use Rattle.std.proofs.Common.{rules, ◌≡◌, ◌≤◌, ◌∙◌, ◌++◌, List, Bool, Option, ap, sym, subst, length, take, drop, arith}
use Rattle.std.specs.Prelude.{slice_index_or, None}
use Rattle.std.proofs.lemmas.Grind.{common_steps}
use Rattle.acpi_conditions.specs.Entries.{Path}
use Rattle.acpi_locals.specs.Callables.{alias_path, entry_object, is_method, AreCallables}
use Rattle.acpi_locals.specs.steps.AliasPaths.{each_below, entries_in}
use Rattle.acpi_locals.proofs.MethodMarks.{none_beyond, marks_mean}
use Rattle.acpi_locals.proofs.callables.Callables.new.Goals as goal

pub mark_all-requires : goal.mark_all-requires
mark_all-requires c = λ n le.
    let es = entries_in c.entries-entries.result in
    let short : length es ≤ n = grind (arith, common_steps) in
    none_beyond es n (slice_index_or c.deref.result.now n None) short

pub returns : goal.returns
returns c o =
    let s = c.args.survey.now in
    let es = entries_in c.entries-entries.result in
    let paths = c.deref.result.now in
    let old = c.deref_mut.result.now in
    let new = c.mark_all.new.marks in
    let count : length c.entries-count.result.now ≡ length es = grind (arith, common_steps) in
    let kept : paths ≡ each_below (alias_path s) (length es) = c.deref.ensures.value ∙ c.in_ok-paths.ensures o ∙ ap (each_below (alias_path s)) count in
    let marked : old ≡ each_below (λ n. is_method (entry_object s n)) (length es) =
    c.deref_mut.ensures.value ∙ c.in_ok-marks.ensures.marks o ∙ ap (each_below (λ n. is_method (entry_object s n))) count in
    let whole : take c.in_ok-marks.marks.len (new ++ drop (length new) c.in_ok-marks.marks.items) ≡ new = grind (arith, common_steps) in
    subst (AreCallables s) (sym whole) (marks_mean s es paths old new c.entries-entries.ensures kept marked c.in_ok-mark_all.ensures)
