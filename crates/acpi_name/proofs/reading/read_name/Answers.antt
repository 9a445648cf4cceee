use Rattle.std.proofs.lemmas.Result.{err_from_is_err_and}
use Rattle.acpi_name.proofs.NameTold.{ok_told, ok_only, fault_cut, fault_bad, fault_zero, fault_many, fault_no_name, err_iff, ok_iff, ok_not_cut, ok_not_bad, ok_not_zero, ok_not_many}
use Rattle.acpi_name.specs.NameRefs.{name_parts}
use Rattle.acpi_name.specs.declared.reading.NameFault.TheVariants.{Cut, BadChar, ZeroCount, TooManyUps}
use Rattle.acpi_name.proofs.reading.read_name.Goals as goal

pub returns-in_err-name-clause-only : goal.returns-in_err-name-clause-only
returns-in_err-name-clause-only c = λ n count h. absurd (fault_no_name c.args.bytes.now _ c.in_err-name.ensures.exact (n, count, h))

pub returns-in_err-name-clause-cut : goal.returns-in_err-name-clause-cut
returns-in_err-name-clause-cut c =
    let p = err_from_is_err_and c.from_residual.result c.from_residual.ensures.1 in
    rw (p.1, p.2) (err_iff _ Cut (fault_cut c.args.bytes.now _ c.in_err-name.ensures.exact))

pub returns-in_err-name-clause-bad_char : goal.returns-in_err-name-clause-bad_char
returns-in_err-name-clause-bad_char c =
    let p = err_from_is_err_and c.from_residual.result c.from_residual.ensures.1 in
    rw (p.1, p.2) (err_iff _ BadChar (fault_bad c.args.bytes.now _ c.in_err-name.ensures.exact))

pub returns-in_err-name-clause-zero_count : goal.returns-in_err-name-clause-zero_count
returns-in_err-name-clause-zero_count c =
    let p = err_from_is_err_and c.from_residual.result c.from_residual.ensures.1 in
    rw (p.1, p.2) (err_iff _ ZeroCount (fault_zero c.args.bytes.now _ c.in_err-name.ensures.exact))

pub returns-in_err-name-clause-too_many_ups : goal.returns-in_err-name-clause-too_many_ups
returns-in_err-name-clause-too_many_ups c =
    let p = err_from_is_err_and c.from_residual.result c.from_residual.ensures.1 in
    rw (p.1, p.2) (err_iff _ TooManyUps (fault_many c.args.bytes.now _ c.in_err-name.ensures.exact))

pub returns-clause-found : goal.returns-clause-found
returns-clause-found c = (ok_told c.args.bytes.now (name_parts c.in_ok-name.name) c.in_ok-name.rest.now c.in_ok-name.ensures.exact).found

pub returns-clause-only : goal.returns-clause-only
returns-clause-only c = ok_only c.args.bytes.now (name_parts c.in_ok-name.name) c.in_ok-name.rest.now c.in_ok-name.ensures.exact

pub returns-clause-cut : goal.returns-clause-cut
returns-clause-cut c = ok_iff _ Cut (ok_not_cut c.args.bytes.now _ c.in_ok-name.ensures.exact)

pub returns-clause-bad_char : goal.returns-clause-bad_char
returns-clause-bad_char c = ok_iff _ BadChar (ok_not_bad c.args.bytes.now (name_parts c.in_ok-name.name) c.in_ok-name.rest.now c.in_ok-name.ensures.exact)

pub returns-clause-zero_count : goal.returns-clause-zero_count
returns-clause-zero_count c = ok_iff _ ZeroCount (ok_not_zero c.args.bytes.now _ c.in_ok-name.ensures.exact)

pub returns-clause-too_many_ups : goal.returns-clause-too_many_ups
returns-clause-too_many_ups c = ok_iff _ TooManyUps (ok_not_many c.args.bytes.now _ c.in_ok-name.ensures.exact)
