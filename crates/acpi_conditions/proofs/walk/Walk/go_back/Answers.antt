use Rattle.std.proofs.Common.{◌≡◌, List, [], ◌∷◌, ◌++◌, ◌-◌, length, Some, slice_get, sym, ap, ◌∙◌}
use Rattle.acpi_conditions.specs.KnownLists.{KnownLists}
use Rattle.acpi_conditions.specs.Walk.{Walk}
use Rattle.acpi_conditions.specs.declared.packages.Package.{Package}
use Rattle.acpi_conditions.specs.steps.Moves.{gone_back}
use Rattle.acpi_conditions.proofs.KeptWalks.{no_if}
use Rattle.acpi_conditions.proofs.WalkPackages.{last_is, shown_kept, back_kept, back_same}
use Rattle.acpi_conditions.proofs.walk.Walk.go_back.Goals as goal

pub invariant_of-self : goal.invariant_of-self
invariant_of-self c = no_if c.self.inside c.self.invariant

pub invariant_of-self-in_err-hide : goal.invariant_of-self-in_err-hide
invariant_of-self-in_err-hide c =
    let there : slice_get c.self.inside.packages.items (length c.self.inside.packages.items - 1) ≡ Some c.in-Some.inner.now =
    ap (λ (l : List Package). slice_get l (length l - 1)) (sym c.deref.ensures.value) ∙ sym c.in-Some.ensures.value in
    let top = last_is c.self.inside.packages.items c.in-Some.inner.now there in
    shown_kept c.self.inside c.self.invariant c.in-Some.inner.now top.0 top.1 c.hide.new.self c.in_ok-scope.scope (c.in_err-hide.ensures.err ∙ c.come_out.ensures)

pub invariant_of-self-in-Continue-branch-2 : goal.invariant_of-self-in-Continue-branch-2
invariant_of-self-in-Continue-branch-2 c =
    let there : slice_get c.self.inside.packages.items (length c.self.inside.packages.items - 1) ≡ Some c.in-Some.inner.now =
    ap (λ (l : List Package). slice_get l (length l - 1)) (sym c.deref.ensures.value) ∙ sym c.in-Some.ensures.value in
    let top = last_is c.self.inside.packages.items c.in-Some.inner.now there in
    back_kept c.self.inside c.self.invariant c.in-Some.inner.now top.0 top.1 c.hide.new.self c.in_ok-scope.scope
    (c.in_ok-hide.ensures.ok
    ∙ ap (λ (k : KnownLists). record k { hidden = k.hidden ++ record { from = c.in-Some.inner.now.mark.entries; to = length k.entries } ∷ [] }) c.come_out.ensures)

pub returns-in_ok-hide : goal.returns-in_ok-hide
returns-in_ok-hide c =
    let there : slice_get c.self.inside.packages.items (length c.self.inside.packages.items - 1) ≡ Some c.in-Some.inner.now =
    ap (λ (l : List Package). slice_get l (length l - 1)) (sym c.deref.ensures.value) ∙ sym c.in-Some.ensures.value in
    let top = last_is c.self.inside.packages.items c.in-Some.inner.now there in
    back_same c.self.inside c.self.invariant c.in-Some.inner.now top.0 top.1 c.hide.new.self c.in_ok-scope.scope
    (c.in_ok-hide.ensures.ok
    ∙ ap (λ (k : KnownLists). record k { hidden = k.hidden ++ record { from = c.in-Some.inner.now.mark.entries; to = length k.entries } ∷ [] }) c.come_out.ensures) c.in_ok-scope.ensures
    ∙ ap (λ (w : Walk). gone_back w.packages w) c.self.view_is
