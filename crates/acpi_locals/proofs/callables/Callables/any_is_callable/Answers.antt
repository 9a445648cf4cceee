use Rattle.std.proofs.Common.{rules, ◌≡◌, ◌↔◌, ℕ, Bool, IsTrue, sym, subst}
use Rattle.acpi_space.specs.Laws.{Among}
use Rattle.acpi_locals.specs.Callables.{MeansMethod}
use Rattle.acpi_locals.specs.steps.Rounds.{any_marked}
use Rattle.acpi_locals.proofs.MethodMarks.{marked_among}
use Rattle.acpi_locals.proofs.callables.Callables.any_is_callable.Goals as goal

pub returns-clause-methods : goal.returns-clause-methods
returns-clause-methods c s are =
    let ns = c.args.numbers.now in
    let here : c.any_marked.result ≡ any_marked c.args.self.now ns = search rules in
    subst (λ (b : Bool). IsTrue b ↔ ((m : ℕ) × Among ns m × MeansMethod s m)) (sym here) (marked_among s c.args.self.now are ns)
