use Rattle.std.proofs.Common.{rules, arith, ◌≡◌, ◌++◌, List, subst}
use Rattle.std.specs.List.Sorted.{IsPermutation, IsStableByKey}
use Rattle.std.specs.Ordering.{nat_cmp}
use Rattle.std.proofs.lemmas.Grind.{common_steps}
use Rattle.std.proofs.lemmas.List.Sorted.{answers_always, IsNonDecreasingBy-from_sort}
use Rattle.std.proofs.lemmas.Result.{on_ok_weaker}
use Rattle.acpi_findings.specs.FindingsOrder.{note_number}
use Rattle.acpi_findings.specs.declared.notes.Note.{Note}
use Rattle.acpi_findings.proofs.findings.Findings.add_notes.Goals as goal

pub returns-clause-notes : goal.returns-clause-notes
returns-clause-notes c =
    let all : c.each.self.notes.items ≡ c.args.self.now.notes.items ++ c.args.notes.items = grind (arith, common_steps) in
    let new = c.sort_by_key.new.self.items in
    let keys = answers_always _ _ _ (λ f a r next called. search rules) in
    on_ok_weaker c.sort_by_key.result
    (λ sorted. record {
      each = subst (λ (ns : List Note). IsPermutation ns new) all c.sort_by_key.ensures.permutation;
      ascending = IsNonDecreasingBy-from_sort note_number new (sorted note_number keys);
      stable = subst (λ (ns : List Note). IsStableByKey note_number nat_cmp ns new) all (c.sort_by_key.ensures.stable note_number keys);
    })
    c.sort_by_key.ensures.sorted
