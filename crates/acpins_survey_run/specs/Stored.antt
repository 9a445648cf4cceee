-- A file that is written, and which is not.
use Rattle.std.specs.Prelude.{◌≡◌, ◌≢◌, ◌⊎◌, ℕ, false, true, List, IfSome}
use Rattle.std.specs.List.{All, Contains}
use Rattle.acpins_io.specs.Dump.{begins_as_tables}
use Rattle.acpins_io.specs.Outputs.{FileBytes}

-- No file that is read has that name, and what stands there doesn't begin as tables do, where it is known.
abbrev pub IsSpared : FileBytes → List (List ℕ) → List ℕ → Type 0
IsSpared bytes_of files name =
    All (λ file. file ≢ name) files
    × IfSome (bytes_of name) (λ bytes. begins_as_tables bytes ≡ false)

-- A file that is read has that name, or what stands there begins as tables do, where it is known.
abbrev pub IsUnspared : FileBytes → List (List ℕ) → List ℕ → Type 0
IsUnspared bytes_of files name =
    Contains files name ⊎ IfSome (bytes_of name) (λ bytes. begins_as_tables bytes ≡ true)
