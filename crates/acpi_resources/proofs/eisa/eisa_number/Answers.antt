use Rattle.std.proofs.Common.{ℕ, List, slice_index_or, ap, arith}
use Rattle.acpi_resources.specs.EisaIds.{letter_1, letter_2, letter_3}
use Rattle.acpi_resources.proofs.EisaLaws.{has_letters, is_found}
use Rattle.acpi_resources.proofs.eisa.eisa_number.Goals as goal

pub returns-in_err-first-clause-only : goal.returns-in_err-first-clause-only
returns-in_err-first-clause-only c = λ n few valid text.
    let bounds = (has_letters n valid).first in
    absurd (c.in_err-first.ensures.none (letter_1 n) bounds.0 bounds.1 (ap (λ (xs : List ℕ). slice_index_or xs 0 0) text))

pub returns-in_err-second-clause-only : goal.returns-in_err-second-clause-only
returns-in_err-second-clause-only c = λ n few valid text.
    let bounds = (has_letters n valid).second in
    absurd (c.in_err-second.ensures.none (letter_2 n) bounds.0 bounds.1 (ap (λ (xs : List ℕ). slice_index_or xs 1 0) text))

pub returns-in_err-third-clause-only : goal.returns-in_err-third-clause-only
returns-in_err-third-clause-only c = λ n few valid text.
    let bounds = (has_letters n valid).third in
    absurd (c.in_err-third.ensures.none (letter_3 n) bounds.0 bounds.1 (ap (λ (xs : List ℕ). slice_index_or xs 2 0) text))

pub returns-clause-found : goal.returns-clause-found
returns-clause-found c =
    is_found c.args.text.now c.in_ok-first.first c.in_ok-second.second c.in_ok-third.third c.in_ok-d.d c.in_ok-e.e c.in_ok-f.f c.in_ok-g.g c.from_le_bytes.result
    (omega (arith, c.in-len7.len_at_least, c.in-len7.len_below)) c.in_ok-first.ensures.found c.in_ok-second.ensures.found c.in_ok-third.ensures.found
    c.in_ok-d.ensures.found c.in_ok-e.ensures.found c.in_ok-f.ensures.found c.in_ok-g.ensures.found c.from_le_bytes.ensures
