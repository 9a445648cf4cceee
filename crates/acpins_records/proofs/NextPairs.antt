-- The value of a pair that stands in its turn.
use Rattle.std.proofs.Common.{◌≡◌, ◌<◌, inl, inr, ℕ, zero, suc, List, [], ◌∷◌, length, map, get_or, Some, ap, sym, subst, arith}
use Rattle.std.specs.Borrow.{Bor}
use Rattle.std.specs.FinMap.{get, entries}
use Rattle.acpi_name.specs.Names.{Segment}
use Rattle.acpi_space.specs.Laws.{Among}
use Rattle.acpi_space.specs.Spaces.{PathMap}
use Rattle.acpi_verdict.proofs.PathSets.{pair_is}

among_mapped : {X Y : Type 0} (f : X → Y) (xs : List X) (i : ℕ) (x : X) → i < length xs → x ≡ get_or xs i x → Among (map f xs) (f x)
among_mapped f [] i x below e = absurd (omega arith)
among_mapped f (y ∷ xs) zero x below e = inl (ap f (sym e))
among_mapped f (y ∷ xs) (suc i) x below e = inr (among_mapped f xs i x (omega arith) e)

-- the value of a pair is that of its path
pub value_next : {V : Type 0} (m : PathMap V) (pairs : List (List Segment × Bor V)) (i : ℕ) (x : List Segment × Bor V) → map (λ e. (e.0, e.1.now)) pairs ≡ entries m
    → i < length pairs → x ≡ get_or pairs i x → get m x.0 ≡ Some x.1.now
value_next m pairs i x are below at = (pair_is m x.0 x.1.now).0 (subst (λ l. Among l (x.0, x.1.now)) are (among_mapped (λ e. (e.0, e.1.now)) pairs i x below at))
