use Rattle.std.proofs.Common.{◌≡◌, List, ◌-◌, length, Some, slice_get, sym, ap, ◌∙◌}
use Rattle.acpi_conditions.specs.Walk.{Walk}
use Rattle.acpi_conditions.specs.declared.packages.Package.{Package}
use Rattle.acpi_conditions.specs.steps.Moves.{with_returns}
use Rattle.acpi_conditions.proofs.WalkPackages.{last_is, left_returns}
use Rattle.acpi_conditions.proofs.walk.Walk.keep_returns.Goals as goal

pub returns-in_ok-keep_returns : goal.returns-in_ok-keep_returns
returns-in_ok-keep_returns c =
    let there : slice_get c.self.inside.packages.items (length c.self.inside.packages.items - 1) ≡ Some c.in-Some.inner.now =
    ap (λ (l : List Package). slice_get l (length l - 1)) (sym c.deref.ensures.value) ∙ sym c.in-Some.ensures.value in
    let top = last_is c.self.inside.packages.items c.in-Some.inner.now there in
    left_returns c.self.inside c.keep_returns.new.stops c.in-Some.inner.now top.0 top.1 c.in_ok-keep_returns.ensures ∙ ap (λ (w : Walk). with_returns w.packages w) c.self.view_is
