-- The reasons of problems and notes, as members of JSON.
use Rattle.std.proofs.Common.{◌≡◌, ℕ, List, ◌++◌, Option, subst}
use Rattle.acpi_name.specs.Names.{NameParts, Segment}
use Rattle.acpins_survey_json.specs.Json.{object, value_text, Members, more_members_text}
use Rattle.acpins_survey_json.specs.JsonFound.{reason_members}

-- what a problem or a note says of its reason
abbrev pub PutsReason : (reason : List ℕ) → List (List Segment) → Option NameParts → (old new : List ℕ) → Type 0
PutsReason reason paths name old new = (ms : Members) → new ++ more_members_text ms ≡ old ++ value_text (object (reason_members reason paths name ms))

pub reason_said : (a b : List ℕ) (ps qs : List (List Segment)) (n m : Option NameParts) (old new : List ℕ) → a ≡ b → ps ≡ qs → n ≡ m → PutsReason a ps n old new → PutsReason b qs m old new
reason_said a b ps qs n m old new same paths name h =
    subst (λ (x : Option NameParts). PutsReason b qs x old new) name
    (subst (λ (xs : List (List Segment)). PutsReason b xs n old new) paths
    (subst (λ (t : List ℕ). PutsReason t ps n old new) same h))
