-- The status of a survey.
use Rattle.std.proofs.Common.{◌≡◌, ◌∙◌, ℕ, Bool, true, false, true≢false, arith, sym}
use Rattle.std.specs.Prelude.{◌↔◌}

pub with_problem : (found : Bool) (status : ℕ) (Nothing : Type 0) → (found ≡ false) ↔ Nothing → found ≡ true → status ≡ 3 → (status ≡ 0) ↔ Nothing
with_problem found status Nothing exact is three = (
  λ zero. absurd (omega (arith, three, zero)),
  λ nothing. absurd (true≢false (sym is ∙ exact.1 nothing)),
)

pub without_problem : (found : Bool) (status : ℕ) (Nothing : Type 0) → (found ≡ false) ↔ Nothing → found ≡ false → status ≡ 0 → (status ≡ 0) ↔ Nothing
without_problem found status Nothing exact is zero = (λ e. exact.0 is, λ nothing. zero)
