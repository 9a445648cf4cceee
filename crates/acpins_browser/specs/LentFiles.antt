-- The files and folders that a page lends.
use Rattle.std.specs.Prelude.{ℕ, List, [], ◌∷◌, Option, Some, None, if◌then◌else◌, map}
use Rattle.std.specs.Str.{bytes_eq}
use Rattle.acpins_io.specs.Outputs.{FileBytes}
use Rattle.acpins_survey_run.specs.Folders.{FolderNames}
use Rattle.acpins_browser.specs.declared.records.LentFile.{LentFile}
use Rattle.acpins_browser.specs.declared.records.LentFolder.{LentFolder}

-- the bytes of the first file of a name
unfoldable pub bytes_in : List LentFile → FileBytes
bytes_in [] name = None
bytes_in (file ∷ files) name = if bytes_eq file.name.now name then Some file.bytes.now else bytes_in files name

-- the names in the first folder of a name
unfoldable pub names_in : List LentFolder → FolderNames
names_in [] name = Some None
names_in (folder ∷ folders) name =
    if bytes_eq folder.name.now name then Some (Some (map (λ n. n.bytes.now) folder.names.now))
    else names_in folders name

-- before a run nothing is written to any file
abbrev pub nothing_written : FileBytes
nothing_written name = Some []

-- what is written to each file, by what was written to that of a name, once it is whole
abbrev pub written_in : Option (List ℕ) → List ℕ → FileBytes
written_in None made = nothing_written
written_in (Some written) made = λ name. if bytes_eq made name then Some written else Some []
