-- The longer of two answers.
use Rattle.std.specs.Prelude.{nat_lt, cond, List, length, Option, None, Some}

-- the longer of two lists, where both are there; of lists of one length the first
abbrev pub longer_path : {A : Type 0} → Option (List A) → Option (List A) → Option (List A)
longer_path None b = b
longer_path (Some a) None = Some a
longer_path (Some a) (Some b) = cond (nat_lt (length a) (length b)) (Some b) (Some a)
