use Rattle.std.proofs.Common.{◌≡◌, ◌*◌, ◌/◌, ◌++◌, List, ℕ, length, take, drop, refl, sym, ap, ◌∙◌, arith}
use Rattle.std.specs.List.{flat_map}
use Rattle.std.specs.Simd.{first_chunks}
use Rattle.std.proofs.lemmas.List.{take-append-drop}
use Rattle.acpi_resources.proofs.Chunks.{joined}
use Rattle.acpi_resources.proofs.large.split_numbers.Goals as goal

pub returns-clause-spelled : goal.returns-clause-spelled
returns-clause-spelled c =
    let front = c.split_at.result.0.now in
    let count : length front ≡ 4 * (length front / 4) = omega (arith, c.split_at.ensures.front_len) in
    let numbers : flat_map (λ (n : List ℕ). n) c.as_chunks.result.0.now ≡ front =
    ap (flat_map (λ (n : List ℕ). n)) c.as_chunks.ensures.front ∙ joined (length front / 4) front count in
    rw (numbers, c.split_at.ensures.front, c.split_at.ensures.back) (sym (take-append-drop (4 * c.args.count) c.args.bytes.now))
