-- How the code puts members of JSON, whatever follows them.
use Rattle.std.specs.Prelude.{◌≡◌, ℕ, List, ◌++◌}
use Rattle.acpins_survey_json.specs.Json.{Value, value_text, Members, more_members_text, name_start}

-- a member behind what stands before it
abbrev pub PutsMember : (start name : List ℕ) → Value → (old new : List ℕ) → Type 0
PutsMember start name v old new = (ms : Members)
    → new ++ more_members_text ms
    ≡ old ++ (start ++ (name_start name ++ (value_text v ++ more_members_text ms)))

-- members before others
abbrev pub PutsMembers : (Members → Members) → (old new : List ℕ) → Type 0
PutsMembers before old new =
    (ms : Members) → new ++ more_members_text ms ≡ old ++ more_members_text (before ms)
