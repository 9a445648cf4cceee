-- Names and segments: what is spelled is read.
use Rattle.std.proofs.Common.{◌≡◌, ℕ, ◌<◌, true, List, [], ◌∷◌, ◌++◌, length, slice_index, Ok, refl, arith}
use Rattle.acpi_name.specs.Names.{NameParts, is_segment}
use Rattle.acpi_name.specs.Spelling.{SpellsName}
use Rattle.acpi_name.proofs.NameAgain.{name_again, segment_again}
use Rattle.acpi_code.specs.steps.Reading.{name_in, segment_in}

pub name_in_complete : (end : ℕ) (n : NameParts) (a rest : List ℕ) → SpellsName n a → name_in end (a ++ rest) ≡ Ok (n, rest)
unfolding name_in
name_in_complete end n a rest h = rw (name_again n a rest h) refl

pub segment_in_complete : (end : ℕ) (s rest : List ℕ) → is_segment s ≡ true → segment_in end (s ++ rest) ≡ Ok (s, rest)
unfolding segment_in
segment_in_complete end s rest h = rw (segment_again s rest h) refl

pub first_of : (a rest : List ℕ) → 0 < length a → slice_index (a ++ rest) 0 ≡ slice_index a 0
first_of [] rest h = absurd (omega arith)
first_of (b ∷ a) rest h = refl
