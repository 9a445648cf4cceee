use Rattle.std.proofs.Common.{None, refl, sym, subst}
use Rattle.acpi_space.specs.Overlays.{contents_over}
use Rattle.acpi_declare.specs.Declaring.{state_of}
use Rattle.acpi_verdict.specs.VerdictView.{IsSinglesFault}
use Rattle.acpi_verdict.specs.steps.Overlays.{overlay_view}
use Rattle.acpi_verdict.proofs.AloneLoads.{dsdt_loads, ssdt_at, refused_so}
use Rattle.acpi_verdict.proofs.DeclaredTables.{none_declared, one_declared, all_declared}
use Rattle.acpi_verdict.proofs.ssdt_paths.lay_all_overlays.Goals as goal

pub loop-i-init : goal.loop-i-init
loop-i-init g c = λ bytes loads. none_declared c.args.depth bytes c.args.ssdts.now (record { definers = c.new.result; same = None }) c.new.ensures.first c.new.ensures.others refl

pub returns-in-Err-clause-err : goal.returns-in-Err-clause-err
returns-in-Err-clause-err g c = λ bytes loads.
    let one = state_of g.S.Space.contents c.args.dsdt.now in
    let ssdts = c.args.ssdts.now in
    let i = c.loop-i.i in
    let b = c.index-ssdts-i.result in
    subst (IsSinglesFault c.args.depth bytes ssdts) (sym c.renumbered.ensures)
    (refused_so c.args.depth bytes ssdts i b c.in-Err.fault (dsdt_loads c.args.depth bytes one loads) (c.loop-i.invariant bytes loads).alone
    (ssdt_at ssdts i b c.loop-i-test.true c.index-ssdts-i.is) (c.in-Err.ensures.err bytes loads))

pub loop-i-preserved : goal.loop-i-preserved
loop-i-preserved g c = λ bytes loads.
    let ssdts = c.args.ssdts.now in
    let i = c.loop-i.i in
    let b = c.index-ssdts-i.result in
    one_declared c.args.depth bytes ssdts i c.loop-i.declared c.record_definers.new.declared (c.loop-i.invariant bytes loads) b (ssdt_at ssdts i b c.loop-i-test.true c.index-ssdts-i.is)
    (overlay_view (contents_over g.S.Space.contents) c.in-Ok.overlay) (c.in-Ok.ensures.ok bytes loads) c.in_ok-record_definers-in-Ok.ensures

pub returns-clause-ok : goal.returns-clause-ok
returns-clause-ok g c = λ bytes loads. all_declared c.args.depth bytes c.args.ssdts.now c.loop-i.i c.loop-i.declared c.loop-i-test.false (c.loop-i.invariant bytes loads)
