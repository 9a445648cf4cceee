-- Which text of a survey a number asks for (docs/LIBRARY.md).
use Rattle.std.specs.Prelude.{◌≡◌, ℕ, true, false, List, [], ◌∷◌, Option, Some, None, nat_eq, if◌then◌else◌}
use Rattle.acpins_survey_words.specs.Words.{Command, listing, showing, using, mapping, telling_bodies, checking, reporting, json, paging}
use Rattle.acpins_survey_run.specs.Prints.{IsPrintOf}
use Rattle.acpins_survey_run.specs.declared.printing.Print.{Print}

-- the uses of what is at a path and below, or of all, where it has no bytes
abbrev pub using_at : List ℕ → Command
using_at [] = using None
using_at (c ∷ path) = using (Some (c ∷ path))

-- the command whose text it is, with a path
abbrev pub command_of : ℕ → List ℕ → Option Command
command_of what path =
    if nat_eq what 1 then Some (listing false)
    else (if nat_eq what 2 then Some (listing true)
    else (if nat_eq what 3 then Some mapping
    else (if nat_eq what 4 then Some telling_bodies
    else (if nat_eq what 5 then Some (showing path)
    else (if nat_eq what 6 then Some (using_at path)
    else (if nat_eq what 7 then Some (checking false [])
    else (if nat_eq what 8 then Some (reporting false)
    else (if nat_eq what 9 then Some (reporting true)
    else (if nat_eq what 10 then Some json
    else (if nat_eq what 11 then Some (paging []) else None))))))))))

-- what is made is that of the number
abbrev pub IsPrintedBy : ℕ → List ℕ → Print → Type 0
IsPrintedBy what path print =
    (command : Command) × (command_of what path ≡ Some command) × IsPrintOf command print
