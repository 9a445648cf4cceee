use Rattle.std.proofs.Common.{◌∷◌}
use Rattle.std.proofs.lemmas.Result.{IfOk-weaker}
use Rattle.std.specs.Option.{option_map}
use Rattle.acpi_machine.specs.MachineView.{machine_of}
use Rattle.acpins_output.proofs.Wholes.{shows_whole}
use Rattle.acpins_output.proofs.showing.show.Goals as goal

pub returns-clause-ok : goal.returns-clause-ok
returns-clause-ok g c =
    let m = c.in_ok-machine.machine in
    let at = c.in_ok-machine.ensures.ok in
    IfOk-weaker c.shown_of.result _ _
    (λ text h. (at.whole, at.loads, shows_whole c.args.depth (c.args.dsdt.now ∷ c.args.ssdts.now) c.args.path.now (machine_of g.S.Space.contents m) (option_map (λ v. v.items) text) at h))
    c.shown_of.ensures.ok
