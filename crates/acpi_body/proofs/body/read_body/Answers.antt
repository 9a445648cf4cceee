use Rattle.std.proofs.Common.{refl}
use Rattle.std.specs.FinMap.{get}
use Rattle.acpi_body.specs.Arguments.{namespace_of, body_grammar}
use Rattle.acpi_body.specs.Bodies.{body_view}
use Rattle.acpi_code.proofs.Fitting.{are_bytes}
use Rattle.acpi_body.proofs.Fitting.{fits_law}
use Rattle.acpi_body.proofs.ReadBodies.{body_law, read_law}
use Rattle.acpi_body.proofs.body.read_body.Goals as goal

pub returns-clause-body : goal.returns-clause-body
returns-clause-body g c =
    let args = body_grammar (namespace_of (g.S.Space.contents c.args.space.now)) (get c.args.counts.now) c.args.method.now in
    body_law body_view args c.args.method.now c.args.depth c.args.bytes.now c.body_or_bytes.result (rw c.get.ensures.number at c.body_or_bytes.ensures)

pub returns-clause-read : goal.returns-clause-read
returns-clause-read g c =
    let args = body_grammar (namespace_of (g.S.Space.contents c.args.space.now)) (get c.args.counts.now) c.args.method.now in
    read_law body_view args c.args.method.now c.args.depth c.args.bytes.now c.body_or_bytes.result
    (body_law body_view args c.args.method.now c.args.depth c.args.bytes.now c.body_or_bytes.result (rw c.get.ensures.number at c.body_or_bytes.ensures))

pub returns-clause-fits : goal.returns-clause-fits
returns-clause-fits g c =
    let args = body_grammar (namespace_of (g.S.Space.contents c.args.space.now)) (get c.args.counts.now) c.args.method.now in
    fits_law body_view args (λ locals. refl) c.args.method.now c.args.depth c.args.bytes.now c.body_or_bytes.result (are_bytes c.args.bytes.now c.type_inv.bytes)
    (body_law body_view args c.args.method.now c.args.depth c.args.bytes.now c.body_or_bytes.result (rw c.get.ensures.number at c.body_or_bytes.ensures))
