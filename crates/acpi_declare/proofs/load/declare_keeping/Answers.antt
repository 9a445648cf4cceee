use Rattle.std.proofs.Common.{◌∷◌}
use Rattle.std.proofs.lemmas.Result.{err_from_is_err_and}
use Rattle.acpi_declare.proofs.Refusals.{refused_has_no_load}
use Rattle.acpi_declare.proofs.load.declare_keeping.Goals as goal

pub returns-in_err-declare_all-clause-none : goal.returns-in_err-declare_all-clause-none
returns-in_err-declare_all-clause-none g c =
    let p = err_from_is_err_and c.from_residual.result c.from_residual.ensures.1 in
    rw (p.1, p.2) (λ some. refused_has_no_load c.args.depth (c.args.dsdt.now ∷ c.args.ssdts.now) c.in_err-declare_all.field-0.0 c.in_err-declare_all.ensures.err some)
