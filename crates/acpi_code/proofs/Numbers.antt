-- Numbers and package lengths: what is spelled is read.
use Rattle.std.proofs.Common.{◌≡◌, ℕ, false, ltb, List, ◌∷◌, ◌++◌, length, Ok, refl, arith}
use Rattle.std.proofs.lemmas.Bool.{le-ltb}
use Rattle.std.proofs.lemmas.List.{length-append, drop_at}
use Rattle.byteorder.specs.Numbers.{little_from-append}
use Rattle.acpi_table.specs.PkgLength.{SpellsPkgLength}
use Rattle.acpi_table.proofs.PkgLengths.{pkg_length_again}
use Rattle.acpi_code.specs.Spelling.{SpellsNumber}
use Rattle.acpi_code.specs.steps.Reading.{byte_at, number_at, length_in}

pub byte_complete : (end n : ℕ) (rest : List ℕ) → byte_at end (n ∷ rest) ≡ Ok (n, rest)
unfolding byte_at
byte_complete end n rest = refl

pub number_complete : (k n end : ℕ) (b rest : List ℕ) → SpellsNumber k n b → number_at k end (b ++ rest) ≡ Ok (n, rest)
unfolding number_at
number_complete k n end b rest h =
    let long : ltb (length (b ++ rest)) k ≡ false = le-ltb _ _ (omega (arith, length-append b rest, h.0)) in
    rw (long, drop_at b rest k h.0, little_from-append k b rest (omega (arith, h.0)), h.1) refl

pub length_complete : (n end : ℕ) (len rest : List ℕ) → SpellsPkgLength n len → length_in end (len ++ rest) ≡ Ok (n, rest)
unfolding length_in
length_complete n end len rest h = rw (pkg_length_again n len rest h) refl
