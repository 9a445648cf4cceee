use Rattle.std.proofs.lemmas.Result.{on_ok_weaker}
use Rattle.acpi_verdict.proofs.misses.Misses.add.Goals as goal

pub returns : goal.returns
returns c = on_ok_weaker c.add_open.result (λ h. record { missed_are = c.in_ok-add_paths.ensures; awaited_are = h }) c.add_open.ensures
