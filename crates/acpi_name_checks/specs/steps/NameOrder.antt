-- An order of names.
use Rattle.std.specs.declared.cmp.Ordering.{Ordering}
use Rattle.std.specs.Ordering.{bool_cmp, nat_cmp, on, then_cmp}
use Rattle.std.specs.Cmp.{IsTotalOrder, on_total, then_total, bool_cmp_total, nat_cmp_total}
use Rattle.acpi_name.specs.Names.{NameParts}
use Rattle.acpi_name.specs.Paths.{path_cmp}
use Rattle.acpi_name.specs.steps.PathOrder.{path_cmp_total}

-- by whether they begin at the root, by their parents, and by their segments
abbrev pub name_cmp : NameParts → NameParts → Ordering
name_cmp = then_cmp (then_cmp (on (λ (n : NameParts). n.rooted) bool_cmp)
    (on (λ (n : NameParts). n.parents) nat_cmp))
    (on (λ (n : NameParts). n.segments) path_cmp)

pub name_cmp_total : IsTotalOrder name_cmp
name_cmp_total = then_total
    (then_total (on_total (λ (n : NameParts). n.rooted) bool_cmp_total)
    (on_total (λ (n : NameParts). n.parents) nat_cmp_total))
    (on_total (λ (n : NameParts). n.segments) path_cmp_total)
