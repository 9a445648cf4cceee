use Rattle.acpi_verdict.proofs.Marked.{all_affected}
use Rattle.acpi_verdict.proofs.affected_ssdts.affected_ssdts.Goals as goal

pub returns : goal.returns
returns c =
    all_affected c.args.definers.now c.args.alone.now _ _ _ c.in_ok-mark_paths.ensures
    c.in_ok-mark_paths-2.ensures
