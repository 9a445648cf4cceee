use Rattle.std.proofs.Common.{◌≡◌, false, None, Some, refl, rules}
use Rattle.hex.specs.Hex.{hex_digit_value}
use Rattle.acpins_io.specs.Hexadecimal.{is_blank}
use Rattle.acpins_io.proofs.Decoding.{digit_taken, byte_taken, spells_nothing}
use Rattle.acpins_io.proofs.hexadecimal.HexDecoder.take.Goals as goal

pub returns-in_default-clause-bad : goal.returns-in_default-clause-bad
returns-in_default-clause-bad c =
    let dark : is_blank c.args.c ≡ false = search rules in
    let none : hex_digit_value c.args.c ≡ None = search rules in
    λ _. spells_nothing c.args.c dark none

pub returns-in_default-high-clause-ok : goal.returns-in_default-high-clause-ok
returns-in_default-high-clause-ok c =
    let dark : is_blank c.args.c ≡ false = search rules in
    let some : hex_digit_value c.args.c ≡ Some c.in-Some.value = search rules in
    let none : c.args.self.now.high ≡ None = search rules in
    λ text is. digit_taken text c.args.c c.in-Some.value c.args.self.now _ dark some none refl refl is

pub returns-clause-ok : goal.returns-clause-ok
returns-clause-ok c =
    let dark : is_blank c.args.c ≡ false = search rules in
    let some : hex_digit_value c.args.c ≡ Some c.in-Some.value = search rules in
    λ text is. byte_taken text c.args.c c.in-Some-high.high c.in-Some.value c.args.self.now _ dark some c.in-Some-high.is c.in-Ok.ensures.items refl is
