use Rattle.std.proofs.Common.{◌≡◌, Some, None, arith, rules}
use Rattle.std.specs.FinMap.{get}
use Rattle.std.proofs.lemmas.Result.{on_ok_weaker}
use Rattle.acpi_verdict.proofs.AddedPaths.{same_free, same_own, same_found}
use Rattle.acpi_verdict.proofs.ssdt_paths.offer_same.Goals as goal

pub returns-in-Some : goal.returns-in-Some
returns-in-Some c =
    let d = c.args.definers.now in
    let p = c.args.path.now in
    let there : get d.first p ≡ Some c.in-Some.first.now = search rules in
    on_ok_weaker c.offer.result (same_found c.args.number p d c.in-Some.first.now there c.args.same.now c.offer.new.clash c.if-first-number.true) c.offer.ensures

pub returns-in_default : goal.returns-in_default
returns-in_default c =
    let d = c.args.definers.now in
    let p = c.args.path.now in
    let there : get d.first p ≡ Some c.in-Some.first.now = search rules in
    same_own c.args.number p d c.in-Some.first.now there c.args.same.now (λ less. let not_less = c.if-first-number.false in absurd (omega arith))

pub returns-in_default-2 : goal.returns-in_default-2
returns-in_default-2 c =
    let d = c.args.definers.now in
    let p = c.args.path.now in
    let none : get d.first p ≡ None = search rules in
    same_free c.args.number p d c.args.same.now none
