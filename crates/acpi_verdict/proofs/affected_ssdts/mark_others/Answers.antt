use Rattle.std.proofs.Common.{List, sym, subst}
use Rattle.acpi_space.specs.Laws.{Among}
use Rattle.acpi_verdict.specs.declared.definers.Definer.{Definer}
use Rattle.acpi_verdict.specs.steps.AffectedSsdts.{Marks}
use Rattle.acpi_verdict.proofs.Marked.{others_marked, no_others_marked}
use Rattle.acpi_verdict.proofs.affected_ssdts.mark_others.Goals as goal

pub returns-in-Some : goal.returns-in-Some
returns-in-Some c =
    let xs = c.in-Some.others.now in
    others_marked c.args.definers.now.others c.args.path.now xs (sym c.in-Some.ensures.value) c.args.affected.now.items c.mark_all.new.affected.items
    (subst (λ (ys : List Definer). Marks c.args.affected.now.items c.mark_all.new.affected.items (Among ys)) c.deref.ensures.value c.mark_all.ensures)

pub returns-in_default : goal.returns-in_default
returns-in_default c = no_others_marked c.args.definers.now.others c.args.path.now (sym c.in_default.ensures.value) c.args.affected.now.items
