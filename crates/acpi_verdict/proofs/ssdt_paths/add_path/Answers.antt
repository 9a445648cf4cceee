use Rattle.std.proofs.lemmas.Result.{on_ok_weaker}
use Rattle.acpi_verdict.specs.declared.ssdt_paths.SsdtPaths.{SsdtPaths}
use Rattle.acpi_verdict.proofs.AddedPaths.{one_added}
use Rattle.acpi_verdict.proofs.ssdt_paths.add_path.Goals as goal

pub returns : goal.returns
returns c =
    let now : SsdtPaths = record { definers = c.add.new.self; same = c.offer_same.new.same } in
    on_ok_weaker c.add.result (λ h. one_added c.args.definer c.args.path c.args.declared.now now h c.in_ok-offer_same.ensures) c.add.ensures
