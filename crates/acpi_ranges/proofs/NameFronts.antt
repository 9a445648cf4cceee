-- The name with which bytes begin is the one that is spelled there.
use Rattle.std.proofs.Common.{◌≡◌, ℕ, ◌-◌, List, length, drop, Option, Some, Result, Ok, Err, refl, ap, ◌∙◌, subst, arith}
use Rattle.std.proofs.lemmas.List.{length-drop}
use Rattle.std.specs.Option.{option_map}
use Rattle.std.specs.Result.{result_ok}
use Rattle.acpi_name.specs.Names.{NameParts}
use Rattle.acpi_name.specs.Spelling.{BeginsWithName}
use Rattle.acpi_name.specs.declared.reading.NameFault.{NameFault}
use Rattle.acpi_name.specs.Reading.{name_at}
use Rattle.acpi_name.proofs.NameTold.{begins_read, ok_told}
use Rattle.acpi_ranges.specs.LostRanges.{NameFrontsAreSpelled}
use Rattle.acpi_ranges.proofs.DeclaringParts.{some_is}

abbrev front_of : List ℕ → Result (NameParts × List ℕ) NameFault → Option (NameParts × ℕ)
front_of bytes r = option_map (λ x. (x.0, length bytes - length x.1)) (result_ok r)

forth : (bytes : List ℕ) (n : NameParts) (count : ℕ) (r : Result (NameParts × List ℕ) NameFault) → name_at bytes ≡ r → front_of bytes r ≡ Some (n, count) → BeginsWithName n count bytes
forth bytes n count (Ok (m, rest)) e h = subst (λ (y : NameParts × ℕ). BeginsWithName y.0 y.1 bytes) (some_is h) (ok_told bytes m rest e).found
forth bytes n count (Err f) e h = absurd cc

back : (bytes : List ℕ) (n : NameParts) (count : ℕ) → BeginsWithName n count bytes → front_of bytes (name_at bytes) ≡ Some (n, count)
back bytes n count b =
    let len : length (drop count bytes) ≡ length bytes - count = length-drop count bytes in
    let used : length bytes - length (drop count bytes) ≡ count = omega (arith, b.within) in
    ap (front_of bytes) (begins_read n count bytes b) ∙ ap (λ (k : ℕ). Some (n, k)) used

pub name_fronts : NameFrontsAreSpelled
name_fronts bytes n count = (forth bytes n count (name_at bytes) refl, back bytes n count)
