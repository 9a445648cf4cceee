-- Numbers that lead to others, and to one that passes a test.
use Rattle.std.specs.Prelude.{ℕ, Bool, IsTrue, List, [], ◌∷◌}
use Rattle.acpi_space.specs.Laws.{Among}

-- through these, one after another; through none where it passes itself
abbrev pub LeadsBy : (ℕ → List ℕ) → (ℕ → Bool) → List ℕ → ℕ → Type 0
LeadsBy next passes [] n = IsTrue (passes n)
LeadsBy next passes (m ∷ ms) n = Among (next n) m × LeadsBy next passes ms m

abbrev pub LeadsTo : (ℕ → List ℕ) → (ℕ → Bool) → ℕ → Type 0
LeadsTo next passes n = (ms : List ℕ) × LeadsBy next passes ms n
