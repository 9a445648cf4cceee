-- What is left inside an item that was entered weighs less than the list in which the item stands.
use Rattle.std.proofs.Common.{◌≡◌, ℕ, List, ◌<◌, ◌≤◌, ◌+◌, ◌*◌, arith}
use Rattle.std.specs.Global.{Vec}
use Rattle.acpi_name.specs.Names.{Segment}
use Rattle.acpi_tree.specs.declared.tree.Item.{Item}
use Rattle.acpi_tree.specs.Tree.{ItemTrees}
use Rattle.acpi_tree.specs.View.{items_tree}
use Rattle.acpi_pass.specs.declared.items.Entered.{Entered}
use Rattle.acpi_pass.specs.declared.items.Entered.TheVariants.{Nothing, Below, Elsewhere}
use Rattle.acpi_pass.specs.steps.Entering.{AreLeft, IsLeftBehind, weights}

pub record Lighter (is : ItemTrees) (most : ℕ) : Type 0 where
  pub left : AreLeft is
  pub falls : 2 * weights is + 1 < 2 * most

pub lighter_below : (whole others : ItemTrees) (e : Entered) (is : Vec Item) (most : ℕ) → e ≡ Below is → weights whole ≤ most → IsLeftBehind whole others e → Lighter (items_tree is.items) most
lighter_below whole others (Below v) is most same le h =
    let held : v ≡ is = cc in
    rw (← held) (record { left = h.1; falls = omega (arith, h.2, le) })
lighter_below whole others Nothing is most same le h = absurd cc
lighter_below whole others (Elsewhere p v) is most same le h = absurd cc

pub lighter_elsewhere : (whole others : ItemTrees) (e : Entered) (p : List Segment) (is : Vec Item) (most : ℕ) → e ≡ Elsewhere p is → weights whole ≤ most → IsLeftBehind whole others e
    → Lighter (items_tree is.items) most
lighter_elsewhere whole others (Elsewhere q v) p is most same le h =
    let held : v ≡ is = cc in
    rw (← held) (record { left = h.1; falls = omega (arith, h.2, le) })
lighter_elsewhere whole others Nothing p is most same le h = absurd cc
lighter_elsewhere whole others (Below v) p is most same le h = absurd cc
