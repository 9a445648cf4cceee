use Rattle.std.proofs.Common.{◌∙◌, List, sym, ap}
use Rattle.acpi_name.specs.Names.{NameParts}
use Rattle.acpi_name.specs.NameEqual.{name_eq}
use Rattle.acpi_name.specs.steps.NameOrder.{name_eq_equiv}
use Rattle.acpi_uses.specs.Uses.{UseParts}
use Rattle.acpi_uses.specs.UseViews.{use_view}
use Rattle.acpi_name_checks.specs.NoElements.{is_lost_element}
use Rattle.acpi_name_checks.specs.steps.Adding.{with_element_if}
use Rattle.acpi_name_checks.proofs.Firsts.{firsts_taken}
use Rattle.acpi_name_checks.proofs.no_element.lost_of_term.Goals as goal

pub each-preserved : goal.each-preserved
each-preserved c =
    let lost = is_lost_element c.args.seen.now in
    let xs = c.deref-used-items.result.now in
    let i = c.each.used-index in
    let w = c.used-item.result in
    record {
      names = c.in_ok-put_lost.ensures.names
          ∙ ap (λ (ns : List NameParts). with_element_if (lost (use_view w)) ns w.name.now) c.each.invariant.names
          ∙ sym (firsts_taken name_eq name_eq_equiv use_view lost (λ (u : UseParts). u.0) xs i w c.each-test.true c.used-item.is);
      listed = c.in_ok-put_lost.ensures.listed;
    }
