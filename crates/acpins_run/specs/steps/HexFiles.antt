-- Files of hexadecimal text.
use Rattle.std.specs.Prelude.{◌≡◌, ◌≢◌, ℕ, List, Option, None, IfSome}
use Rattle.std.specs.declared.io.ErrorKind.{ErrorKind}
use Rattle.acpins_io.specs.Hexadecimal.{SpellsInHex}
use Rattle.acpins_run.specs.declared.failure.Failure.{Failure}
use Rattle.acpins_run.specs.declared.failure.Failure.TheVariants.{Read, BadHex, Memory}

-- why the bytes that a file spells can't be had: reading it failed with that error, what is known of it spells none, or
-- there is no memory
abbrev pub IsHexFault : List ℕ → Option (List ℕ) → Option ErrorKind → Failure → Type 0
IsHexFault name known error (Read word) = (word.now ≡ name) × (error ≢ None)
IsHexFault name known error (BadHex word) =
    (word.now ≡ name) × IfSome known (λ content. (bytes : List ℕ) → SpellsInHex bytes content → ⊥)
IsHexFault name known error Memory = Unit {0}
IsHexFault name known error _ = ⊥
