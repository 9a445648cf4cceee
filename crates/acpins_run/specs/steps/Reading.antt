-- Reading the files that a request names.
use Rattle.std.specs.Prelude.{◌≡◌, ℕ, List, map, Result, Err}
use Rattle.acpi_table.specs.Sources.{one_more}
use Rattle.acpins_words.specs.declared.words.Request.{Request}
use Rattle.acpins_run.specs.declared.failure.Failure.{Failure}
use Rattle.acpins_run.specs.declared.failure.Failure.TheVariants.{Read}

-- the names of the files that a request has, in order
abbrev pub files_of : Request → List (List ℕ)
files_of request = map (λ name. name.now) request.files.items

-- one failed read more where the file can't be read, and none else
abbrev pub CountsFailedRead : {A : Type 0} → Result A Failure → ℕ → ℕ → Type 0
CountsFailedRead (Err (Read word)) old new = new ≡ one_more old
CountsFailedRead _ old new = new ≡ old
