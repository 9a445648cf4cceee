-- `==` on names is an equivalence.
use Rattle.std.specs.Cmp.{IsEquivalence, and_equiv, on_equiv, bool_eq_equiv}
use Rattle.std.proofs.lemmas.Cmp.{lists_equiv, nat_eq_equiv}
use Rattle.acpi_name.specs.Names.{NameParts}
use Rattle.acpi_name.specs.NameEqual.{name_eq}

pub name_eq_equiv : IsEquivalence name_eq
name_eq_equiv = and_equiv
    (and_equiv (on_equiv (λ (n : NameParts). n.rooted) bool_eq_equiv)
    (on_equiv (λ (n : NameParts). n.parents) nat_eq_equiv))
    (on_equiv (λ (n : NameParts). n.segments) (lists_equiv (lists_equiv nat_eq_equiv)))
