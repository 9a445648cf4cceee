-- Counts stay at most 7.
use Rattle.std.proofs.Common.{◌≡◌, ℕ, ◌≤◌, List, Bool, true, false, cond, Option, Some, None, subst, sym, ◌∙◌}
use Rattle.std.specs.FinMap.{empty, get, get-empty, insert, get-insert}
use Rattle.std.specs.Ordering.{eq_by_cmp}
use Rattle.acpi_name.specs.Names.{Segment}
use Rattle.acpi_name.specs.Paths.{path_cmp}
use Rattle.acpi_name.specs.steps.PathOrder.{path_cmp_total}
use Rattle.acpi_space.specs.Spaces.{PathMap}
use Rattle.acpi_counts.specs.Counts.{AreSmall, first_of, with_first}

abbrev number : ℕ → Option ℕ
number n = Some n

abbrev no_number : Option ℕ
no_number = None

same_number : (m n : ℕ) → number m ≡ number n → m ≡ n
same_number m n e = cc

pub empty_small : AreSmall empty
empty_small p n e = let never : no_number ≡ number n = sym (get-empty path_cmp p) ∙ e in cc

either : (b : Bool) (m n : ℕ) (o : Option ℕ) → m ≤ 7 → (o ≡ Some n → n ≤ 7) → cond b (number m) o ≡ Some n → n ≤ 7
either true m n o h k e = subst (λ x. x ≤ 7) (same_number m n e) h
either false m n o h k e = k e

insert_small : (m : PathMap ℕ) (p : List Segment) (k : ℕ) → k ≤ 7 → AreSmall m → AreSmall (insert m p k)
insert_small m p k h small q n e = either (eq_by_cmp path_cmp q p) k n (get m q) h (small q n) (sym (get-insert path_cmp_total m p k q) ∙ e)

pub with_small : (m : PathMap ℕ) (p : List Segment) (n : ℕ) → n ≤ 7 → AreSmall m → AreSmall (with_first m p n)
with_small m p n h small = by (get m p)
  where
    by : (o : Option ℕ) → AreSmall (first_of m p n o)
    by None = insert_small m p n h small
    by (Some k) = small
