use Rattle.std.proofs.Common.{◌+◌, None, refl}
use Rattle.std.proofs.lemmas.Result.{err_from_is_err_and}
use Rattle.acpi_space.specs.Spaces.{is_defined}
use Rattle.acpi_declare.specs.Declaring.{state_of}
use Rattle.acpi_verdict.proofs.AloneLoads.{ssdt_at, alone_at}
use Rattle.acpi_verdict.proofs.FoundTables.{none_found, one_found, all_found}
use Rattle.acpi_verdict.proofs.PairMisses.{alone_awaits}
use Rattle.acpi_verdict.proofs.findings.find_all.Goals as goal

pub loop-i-init : goal.loop-i-init
loop-i-init g c = λ bytes loads definers.
    let one = state_of g.S.Space.contents c.args.dsdt.now in
    let d = c.args.definers.now in
    let alone = c.in_ok-misses.misses in
    none_found c.args.depth bytes c.args.ssdts.now d definers alone.awaited (alone_awaits (is_defined d.first) c.args.depth bytes one loads alone c.in_ok-misses.ensures) c.new-satisfied.result.items
    c.put_user.new.list.items c.new-satisfied.ensures.items c.in_ok-put_user.ensures (record { clash = None; satisfied = c.put_user.new.list }) refl refl

pub returns-in_err-record_findings-clause-err : goal.returns-in_err-record_findings-clause-err
returns-in_err-record_findings-clause-err g c = λ bytes loads alone.
    let p = err_from_is_err_and c.from_residual-in_err-record_findings.result c.from_residual-in_err-record_findings.ensures.1 in
    let ssdts = c.args.ssdts.now in
    let i = c.loop-i.i in
    let b = c.index-ssdts-i.result in
    rw (p.1, p.2) (c.in_err-record_findings.ensures.err bytes loads (alone_at c.args.depth bytes ssdts alone (i + 1) b (ssdt_at ssdts i b c.loop-i-test.true c.index-ssdts-i.is)))

pub loop-i-preserved : goal.loop-i-preserved
loop-i-preserved g c = λ bytes loads definers.
    let ssdts = c.args.ssdts.now in
    let i = c.loop-i.i in
    let b = c.index-ssdts-i.result in
    let at = ssdt_at ssdts i b c.loop-i-test.true c.index-ssdts-i.is in
    one_found c.args.depth bytes ssdts c.args.definers.now definers i b at c.loop-i.found c.record_findings.new.found (c.loop-i.invariant bytes loads definers)
    (c.in_ok-record_findings.ensures.ok bytes ssdts loads c.in_ok-misses.ensures c.in_ok-affected.ensures definers at)

pub returns-clause-ok : goal.returns-clause-ok
returns-clause-ok g c = λ bytes loads definers.
    all_found c.args.depth bytes c.args.ssdts.now c.args.definers.now definers c.loop-i.i c.loop-i.found c.loop-i-test.false (c.loop-i.invariant bytes loads definers)
