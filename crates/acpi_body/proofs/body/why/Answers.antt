use Rattle.std.proofs.Common.{◌<◌, arith}
use Rattle.std.specs.FinMap.{get}
use Rattle.acpi_body.specs.Arguments.{namespace_of, body_grammar}
use Rattle.acpi_body.proofs.ReadBodies.{why_law, next_law, faults_law, sure_law}
use Rattle.acpi_body.proofs.body.why.Goals as goal

pub returns-clause-read : goal.returns-clause-read
returns-clause-read g c =
    let args = body_grammar (namespace_of (g.S.Space.contents c.args.space.now)) (get c.args.counts.now) c.args.method.now in
    why_law args c.args.method.now c.args.depth c.args.bytes.now c.fault_in.result (rw c.get.ensures.number at c.fault_in.ensures)

pub returns-clause-faults : goal.returns-clause-faults
returns-clause-faults g c =
    let args = body_grammar (namespace_of (g.S.Space.contents c.args.space.now)) (get c.args.counts.now) c.args.method.now in
    faults_law args c.args.method.now c.args.depth c.args.bytes.now c.fault_in.result (rw c.get.ensures.number at c.fault_in.ensures)

pub returns-clause-next : goal.returns-clause-next
returns-clause-next g c =
    let args = body_grammar (namespace_of (g.S.Space.contents c.args.space.now)) (get c.args.counts.now) c.args.method.now in
    let some : 0 < c.args.depth = omega (arith, c.get.ensures.number, c.get.ensures.least) in
    next_law args c.args.method.now c.args.depth c.args.bytes.now c.fault_in.result (rw c.get.ensures.number at c.fault_in.ensures) some

pub returns-clause-sure : goal.returns-clause-sure
returns-clause-sure g c =
    let objects = namespace_of (g.S.Space.contents c.args.space.now) in
    let s = c.args.method.now in
    sure_law objects (get c.args.counts.now) s c.args.depth c.args.bytes.now c.fault_in.result
    (faults_law (body_grammar objects (get c.args.counts.now) s) s c.args.depth c.args.bytes.now c.fault_in.result (rw c.get.ensures.number at c.fault_in.ensures))
