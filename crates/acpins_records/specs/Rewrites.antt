-- What is written of rewritten tables (docs/LIBRARY.md).
use Rattle.std.specs.Prelude.{◌≡◌, ◌⊎◌, ◌<◌, ℕ, List, length}
use Rattle.acpi_rewrite.specs.Rewriting.{AreRewritten}
pub use Rattle.acpins_lent.specs.Joined.{ends_from, joined}
use Rattle.acpins_records.specs.declared.outcome.Outcome.{Outcome}
use Rattle.acpins_records.specs.Outcomes.{bytes_outcome}
use Rattle.acpins_records.specs.Written.{IsFront}

-- the rewritten tables stand at the front of the bytes, and their ends at the front of the ends
pub record AreTablesWritten (depth : ℕ) (tables : List (List ℕ)) (old new ends ends' : List ℕ)
    (outcome : Outcome) : Type 0 where
  pub rewritten : List (List ℕ)
  pub are : AreRewritten depth tables rewritten
  pub bytes : IsFront (joined rewritten) old new
  pub ends_are : IsFront (ends_from 0 rewritten) ends ends'
  pub outcome_is : outcome ≡ bytes_outcome (length (joined rewritten))

-- .. have no room there
pub record NeedTablesRoom (depth : ℕ) (tables : List (List ℕ)) (old ends : List ℕ)
    (outcome : Outcome) : Type 0 where
  pub rewritten : List (List ℕ)
  pub are : AreRewritten depth tables rewritten
  pub outcome_is : outcome ≡ bytes_outcome (length (joined rewritten))
  pub short : (length old < length (joined rewritten))
      ⊎ (length ends < length (ends_from 0 rewritten))
