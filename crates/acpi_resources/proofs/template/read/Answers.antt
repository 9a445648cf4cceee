use Rattle.std.proofs.Common.{sym, ◌∙◌}
use Rattle.acpi_resources.proofs.Templates.{goes_on, stays}
use Rattle.acpi_resources.proofs.template.read.Goals as goal

pub returns-then-ended-clause-split : goal.returns-then-ended-clause-split
returns-then-ended-clause-split c =
    rw c.in_ok-push.ensures.items (goes_on _ c.in-Some.descriptor c.loop-descriptor.left.now c.in-Some.rest.now c.args.bytes.now c.loop-descriptor.invariant.split c.in-Some.ensures.spelled c.in-Some.ensures.proper)

pub loop-descriptor-preserved : goal.loop-descriptor-preserved
loop-descriptor-preserved c = record {
  split = rw c.in_ok-push.ensures.items (goes_on _ c.in-Some.descriptor c.loop-descriptor.left.now c.in-Some.rest.now c.args.bytes.now c.loop-descriptor.invariant.split c.in-Some.ensures.spelled c.in-Some.ensures.proper);
  none_yet = rw c.in_ok-push.ensures.items (stays _ c.in-Some.descriptor c.loop-descriptor.invariant.none_yet (sym c.is_end_tag-ended.ensures ∙ c.if-ended.false));
}
