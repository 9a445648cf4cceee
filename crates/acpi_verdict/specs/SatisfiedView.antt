-- Satisfied Externals, and their order (ACPI 6.5, 20.2.5.2 DefExternal).
use Rattle.std.specs.Prelude.{◌↔◌, ℕ, List}
use Rattle.std.specs.declared.cmp.Ordering.{Ordering}
use Rattle.std.specs.List.Sorted.{IsStrictlySortedBy}
use Rattle.std.specs.Ordering.{nat_cmp, ordering_then}
use Rattle.acpi_name.specs.Paths.{path_cmp}
use Rattle.acpi_space.specs.Laws.{Among}
use Rattle.acpi_order.specs.Singles.{IsSatisfied}
use Rattle.acpi_verdict.specs.declared.verdicts.Satisfied.{Satisfied}

-- by user, then definer, then path
abbrev pub satisfied_cmp : Satisfied → Satisfied → Ordering
satisfied_cmp a b = ordering_then (nat_cmp a.user b.user)
    (ordering_then (nat_cmp a.definer b.definer) (path_cmp a.path b.path))

-- all Externals that other tables satisfy, by user, definer and path
pub record AreSatisfied (depth : ℕ) (dsdt : List ℕ) (ssdts : List (List ℕ))
    (triples : List Satisfied) : Type 0 where
  pub ascend : IsStrictlySortedBy satisfied_cmp triples
  pub are : (t : Satisfied) → Among triples t ↔ IsSatisfied depth dsdt ssdts t.user t.definer t.path
