use Rattle.std.proofs.Common.{Option, sym, subst}
use Rattle.acpi_conditions.specs.declared.packages.Package.{Package}
use Rattle.acpi_conditions.specs.steps.Walks.{IsWalk}
use Rattle.acpi_conditions.proofs.KeptWalks.{packages_still}
use Rattle.acpi_conditions.proofs.walk.Walk.take_if.Goals as goal

pub invariant_of-self : goal.invariant_of-self
invariant_of-self c =
    subst (λ (o : Option Package). IsWalk (record c.self.inside { packages = c.push.new.self; last_if = o })) (sym c.take.ensures.after) (packages_still c.self.inside c.self.invariant c.push.new.self c.in_err-push.ensures.items)
