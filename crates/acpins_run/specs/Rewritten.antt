-- What `rewrite` puts into its file (docs/COMMAND.md).
use Rattle.std.specs.Prelude.{◌≡◌, ℕ, Bool, true, false, List, [], ◌∷◌, ◌++◌}
use Rattle.std.specs.List.{flat_map}
use Rattle.acpi_rewrite.specs.Rewriting.{AreTablesOfBytes, AreRewritten}
use Rattle.acpins_run.specs.declared.failure.Failure.{Failure}
use Rattle.acpins_run.specs.declared.failure.Failure.TheVariants.{Out, Memory}
use Rattle.hex.specs.Hex.{encode_lower}

-- a table: its bytes, or a line of their lower-case digits
abbrev pub table_text : Bool → List ℕ → List ℕ
table_text true table = encode_lower table ++ 10 ∷ []
table_text false table = table

-- tables, one after another
abbrev pub file_text : Bool → List (List ℕ) → List ℕ
file_text hex tables = flat_map (table_text hex) tables

-- the file of these tables, each in its shortest spelling; they are bytes, the old and the new ones
pub record IsFileOf (hex : Bool) (depth : ℕ) (tables : List (List ℕ)) (text : List ℕ) : Type 0 where
  pub new : List (List ℕ)
  pub rewritten : AreRewritten depth tables new
  pub old_bytes : AreTablesOfBytes tables
  pub new_bytes : AreTablesOfBytes new
  pub text_is : text ≡ file_text hex new

-- the failure says that the file of this name can't be written, or that there is no memory for it
abbrev pub IsUnwritten : List ℕ → Failure → Type 0
IsUnwritten name (Out word) = word.now ≡ name
IsUnwritten name Memory = Unit {0}
IsUnwritten name _ = ⊥
