use Rattle.std.specs.Borrow.{Bor}
use Rattle.std.specs.Global.{Vec}
use Rattle.std.proofs.Common.{◌≡◌, ◌∙◌, Bool, List, sym, ap}
use Rattle.acpi_conditions.specs.Entries.{Path}
use Rattle.acpi_locals.specs.LocalViews.{name_view}
use Rattle.acpi_uses.specs.declared.guards.GuardStep.{GuardStep}
use Rattle.acpi_uses.specs.steps.GuardWalks.{found_by}
use Rattle.acpi_name_checks.specs.NoNames.{NoNameParts, has_same_name, is_lost, no_name_of}
use Rattle.acpi_name_checks.specs.Views.{no_name_views}
use Rattle.acpi_name_checks.specs.steps.Adding.{with_name_if}
use Rattle.acpi_name_checks.proofs.Firsts.{firsts_taken, same_name_equiv}
use Rattle.acpi_name_checks.proofs.no_name.names_nowhere.Goals as goal

pub each-preserved : goal.each-preserved
each-preserved c =
    let first = c.in_ok-guards.guards in
    let w = c.name-item.result in
    let n = name_view w in
    let lost = is_lost first.scope.now (found_by first.steps.items) in
    let same : is_lost c.each.guards.scope.now (found_by c.each.guards.steps.items) n ≡ lost n =
    ap (λ (s : Bor Path). is_lost s.now (found_by c.each.guards.steps.items) n) c.each.invariant.scope
    ∙ ap (λ (ss : Vec GuardStep). is_lost first.scope.now (found_by ss.items) n) c.each.invariant.steps in
    record {
      steps = c.in_ok-put_lost.ensures.steps ∙ c.each.invariant.steps;
      scope = c.in_ok-put_lost.ensures.scope ∙ c.each.invariant.scope;
      found = c.in_ok-put_lost.ensures.found
          ∙ ap (λ (b : Bool). with_name_if b (no_name_views c.each.found.items) (no_name_of n)) same
          ∙ ap (λ (xs : List NoNameParts). with_name_if (lost n) xs (no_name_of n)) c.each.invariant.found
          ∙ sym (firsts_taken has_same_name same_name_equiv name_view lost no_name_of c.args.names.now c.each.name-index w c.each-test.true c.name-item.is);
      listed = c.in_ok-put_lost.ensures.listed;
    }
