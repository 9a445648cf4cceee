-- Packages: what is spelled is read.
use Rattle.std.proofs.Common.{◌≡◌, ℕ, ◌-◌, ◌+◌, ◌<◌, false, ltb, List, ◌++◌, length, Ok, refl, ap, ◌∙◌, append_assoc, arith}
use Rattle.std.proofs.lemmas.Bool.{le-ltb}
use Rattle.std.proofs.lemmas.List.{length-append, take_at, drop_at}
use Rattle.acpi_table.specs.PkgLength.{SpellsPkgLength}
use Rattle.acpi_code.specs.steps.Reading.{Package, package_of, package_at}
use Rattle.acpi_code.proofs.Numbers.{length_complete}

-- opcode, package length, content, rest
pub front_is : (op b len content rest : List ℕ) → b ≡ op ++ (len ++ content) → b ++ rest ≡ op ++ (len ++ (content ++ rest))
front_is op b len content rest e = ap (λ (l : List ℕ). l ++ rest) e ∙ append_assoc op (len ++ content) rest ∙ ap (λ (l : List ℕ). op ++ l) (append_assoc len content rest)

pub package_complete : (end : ℕ) (len content rest : List ℕ) → SpellsPkgLength (length len + length content) len → package_at end (len ++ (content ++ rest)) ≡ Ok (package_of end content rest)
unfolding package_at
package_complete end len content rest h =
    let all = len ++ (content ++ rest) in
    let sizes : length all ≡ length len + (length content + length rest) = omega (arith, length-append len (content ++ rest), length-append content rest) in
    let used : length all - length (content ++ rest) ≡ length len = omega (arith, length-append len (content ++ rest)) in
    let low : ltb (length len + length content) (length len) ≡ false = le-ltb _ _ (omega arith) in
    let high : ltb (length all) (length len + length content) ≡ false = le-ltb _ _ (omega arith) in
    let inner : length len + length content - length len ≡ length content = omega arith in
    rw (length_complete (length len + length content) end len (content ++ rest) h, used, low, high, inner, take_at content rest (length content) refl, drop_at content rest (length content) refl) refl

-- the bytes are a package length, this content and the rest
pub record PackageFront (end : ℕ) (bytes : List ℕ) (p : Package) : Type 0 where
  pub len : List ℕ
  pub spells_len : SpellsPkgLength (length len + length p.content) len
  pub whole : bytes ≡ len ++ (p.content ++ p.rest)
  pub some : 0 < length len
  pub ends : p.end ≡ end - length p.rest
