use Rattle.std.proofs.Common.{◌≡◌, ◌+◌, ◌++◌, ◌/◌, length, take, drop, refl, sym, arith}
use Rattle.std.proofs.lemmas.List.{length-take, take-append-drop}
use Rattle.acpi_table.proofs.PkgLengths.{spells_wide, one_spelling}
use Rattle.acpi_table.proofs.lengths.read_pkg_length.Goals as goal

pub returns-clause-found : goal.returns-clause-found
returns-clause-found c =
    rw (c.low_number.ensures.number, c.in-Some.ensures.cases.0)
    (spells_wide c.in-Some.lead.now c.in-Some.rest.now (omega arith) (omega arith) (omega arith))

pub returns-clause-only : goal.returns-clause-only
returns-clause-only c n front rest h e =
    let used = 1 + c.in-Some.lead.now / 64 in
    let bytes = c.args.bytes.now in
    let split : bytes ≡ take used bytes ++ drop used bytes = sym (take-append-drop used bytes) in
    let one = one_spelling bytes (take used bytes) (drop used bytes) front rest _ n (returns-clause-found c) split h e in
    let long : length (take used bytes) ≡ used = omega (arith, length-take used bytes, c.in-Some.ensures.cases.1) in
    rw (sym one.0, sym one.1, long) refl
