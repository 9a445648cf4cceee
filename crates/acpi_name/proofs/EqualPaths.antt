-- `==` on paths is equality.
use Rattle.std.proofs.Common.{◌≡◌, List, sym, ap, ◌∙◌}
use Rattle.std.specs.Bool.{Decides}
use Rattle.std.specs.Ordering.{eq_by_cmp}
use Rattle.std.proofs.lemmas.Cmp.{eq_by_cmp_equiv}
use Rattle.std.proofs.lemmas.Map.Views.{tells_apart}
use Rattle.acpi_name.specs.Names.{Segment}
use Rattle.acpi_name.specs.Paths.{path_cmp}
use Rattle.acpi_name.specs.steps.PathOrder.{path_cmp_total, path_cmp-IsAntisymmetric}

pub path_eq_Decides : (p q : List Segment) → Decides (eq_by_cmp path_cmp p q) (p ≡ q)
path_eq_Decides p q = (
  λ h. tells_apart path_cmp-IsAntisymmetric p q h,
  λ h. ap (λ (x : List Segment). eq_by_cmp path_cmp p x) (sym h) ∙ (eq_by_cmp_equiv path_cmp_total).refl p,
)
