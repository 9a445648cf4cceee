use Rattle.std.proofs.Common.{◌≡◌, drop}
use Rattle.acpi_name.specs.Paths.{path_cmp}
use Rattle.acpi_name_checks.proofs.name_set.compare_segs.Given as goal

abbrev pub invariant-loop-i : goal.invariant-loop-i
invariant-loop-i l = path_cmp (drop l.i l.one.segs.now) (drop l.i l.other.segs.now) ≡ path_cmp l.one.segs.now l.other.segs.now
