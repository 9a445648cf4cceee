-- What a call returned, against what a definition gives.
use Rattle.std.specs.Prelude.{◌≡◌, Result, Ok, Err}

-- The result, seen by this view, is the definition's, and its fault is the definition's.
abbrev pub Gives : {X Y E : Type 0} → (X → Y) → Result X E → Result Y E → Type 0
Gives view (Ok x) defined = defined ≡ Ok (view x)
Gives view (Err fault) defined = defined ≡ Err fault
