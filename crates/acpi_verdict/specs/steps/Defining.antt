-- Which SSDTs declare a path.
use Rattle.std.specs.Prelude.{◌≡◌, ◌⊎◌, ◌↔◌, ℕ, ◌%◌, nat_eq, Bool, false, List, Option, Some, None}
use Rattle.std.specs.BTreeMap.{BTreeMap}
use Rattle.std.specs.BTreeMap as tree
use Rattle.std.specs.FinMap.{get}
use Rattle.std.specs.Global.{Vec}
use Rattle.acpi_name.specs.Names.{Segment}
use Rattle.acpi_name.specs.Paths.{path_cmp}
use Rattle.acpi_space.specs.Laws.{Among}
use Rattle.acpi_tree.specs.Objects.{ObjectTree, method_object}
use Rattle.acpi_verdict.specs.declared.definers.Definer.{Definer}
use Rattle.acpi_verdict.specs.declared.definers.Definers.{Definers}

-- how many arguments an object takes, where it is a method
abbrev pub method_args : ObjectTree → Option ℕ
method_args (method_object flags) = Some (flags % 8)
method_args _ = None

abbrev pub args_at : Option ObjectTree → Option ℕ
args_at None = None
args_at (Some o) = method_args o

abbrev pub are_args : Option ℕ → ℕ → Bool
are_args None n = false
are_args (Some k) n = nat_eq k n

-- the object of the SSDT is a method of so many arguments
abbrev pub takes : Definer → ℕ → Bool
takes x n = are_args x.args n

-- ---- those that are noted

abbrev pub IsOther : BTreeMap (List Segment) (Vec Definer) → List Segment → Definer → Type 0
IsOther others p x = (xs : Vec Definer) × (tree.get path_cmp others p ≡ Some xs) × Among xs.items x

-- the SSDT is noted at the path
abbrev pub IsNoted : Definers → List Segment → Definer → Type 0
IsNoted d p x = (get d.first p ≡ Some x) ⊎ IsOther d.others p x

-- one more at the path
abbrev pub AddsOther : BTreeMap (List Segment) (Vec Definer) → BTreeMap (List Segment) (Vec Definer)
    → List Segment → Definer → Type 0
AddsOther old new p x =
    (q : List Segment) (y : Definer) → IsOther new q y ↔ (IsOther old q y ⊎ ((p ≡ q) × (x ≡ y)))

-- .. which is the first there where there was none
pub record AddsDefiner (old new : Definers) (p : List Segment) (x : Definer) : Type 0 where
  pub noted : (q : List Segment) (y : Definer)
      → IsNoted new q y ↔ (IsNoted old q y ⊎ ((p ≡ q) × (x ≡ y)))
  pub firsts : (q : List Segment) (y : Definer)
      → (get new.first q ≡ Some y)
      ↔ ((get old.first q ≡ Some y) ⊎ ((get old.first q ≡ None) × (p ≡ q) × (x ≡ y)))
