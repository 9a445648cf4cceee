-- Laws on EISA ids.
use Rattle.std.specs.Prelude.{◌≡◌, ◌<◌, ◌^◌, ℕ, IsTrue}
use Rattle.acpi_resources.specs.EisaIds.{is_eisa_number, eisa_text}

-- no two numbers have one id
abbrev pub EisaIdsHaveOneNumber : Type 0
EisaIdsHaveOneNumber =
    (m n : ℕ) → m < 2 ^ 32 → n < 2 ^ 32 → IsTrue (is_eisa_number m) → IsTrue (is_eisa_number n)
    → eisa_text m ≡ eisa_text n → m ≡ n
