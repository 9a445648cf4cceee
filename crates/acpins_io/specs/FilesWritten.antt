-- What a file holds that was written.
use Rattle.std.specs.Prelude.{◌≡◌, ℕ, List, Option, IfSome, Some}

-- where it is known what was written to a file before, it holds these bytes now
abbrev pub Holds : Option (List ℕ) → Option (List ℕ) → List ℕ → Type 0
Holds old new bytes = IfSome old (λ _. new ≡ Some bytes)
