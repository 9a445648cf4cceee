use Rattle.std.proofs.Common.{◌≡◌, ℕ, List, ◌-◌, length, Option, Some, None, slice_get, refl, sym, ap, subst, ◌∙◌}
use Rattle.std.specs.Option.{option_copied, option_map}
use Rattle.acpi_conditions.specs.Entries.{Entry}
use Rattle.acpi_conditions.specs.Walk.{Walk}
use Rattle.acpi_conditions.specs.declared.packages.Package.{Package}
use Rattle.acpi_conditions.specs.steps.Moves.{IsBehindTerm}
use Rattle.acpi_conditions.specs.steps.Settled.{certain_there}
use Rattle.acpi_conditions.specs.steps.Walks.{walk_of}
use Rattle.acpi_conditions.specs.declared.statuses.Presence.{Presence}
use Rattle.acpi_conditions.proofs.SettledEntries.{viewed_there, none_certain}
use Rattle.acpi_conditions.proofs.WayTrees.{got_at}
use Rattle.acpi_conditions.proofs.WalkPackages.{last_is, entry_behind, nothing_behind}
use Rattle.acpi_conditions.proofs.walk.Walk.behind_term.Goals as goal

pub returns-in-Some-get : goal.returns-in-Some-get
returns-in-Some-get c =
    let there : slice_get c.self.inside.packages.items (length c.self.inside.packages.items - 1) ≡ Some c.in-Some.inner.now =
    ap (λ (l : List Package). slice_get l (length l - 1)) (sym c.deref.ensures.value) ∙ sym c.in-Some.ensures.value in
    let top = last_is c.self.inside.packages.items c.in-Some.inner.now there in
    let at : slice_get c.self.inside.paths.entries c.in-Some.inner.now.mark.entries ≡ Some c.in-Some-get.entry.now =
    sym (got_at c.entries.result.now c.self.inside.paths.entries c.in-Some.inner.now.mark.entries c.get.result c.get.ensures.lookup c.entries.ensures) ∙ ap option_copied c.in-Some-get.is in
    let r = c.certain_after.result in
    let is = ap (λ (n : ℕ). certain_there r.settled (option_map (λ e. e.path) (slice_get (walk_of c.self.inside).entries n))) c.certain_after.ensures.number
    ∙ ap (λ (o : Option Entry). certain_there r.settled (option_map (λ e. e.path) o)) (viewed_there c.self.inside (walk_of c.self.inside) c.in-Some.inner.now.mark.entries c.in-Some-get.entry.now refl at)
    ∙ c.certain_after.ensures.settled c.self.inside.ways in
    subst (λ (w : Walk). IsBehindTerm w.packages w r.keeps (certain_there r.settled (option_map (λ e. e.path) (slice_get w.entries r.number)))) c.self.view_is
    (entry_behind c.self.inside c.in-Some.inner.now top.0 top.1 c.in-Some-get.entry.now r.keeps (certain_there r.settled (option_map (λ e. e.path) (slice_get (walk_of c.self.inside).entries r.number))) at c.certain_after.ensures.keeps is)

pub returns-in-None-get : goal.returns-in-None-get
returns-in-None-get c =
    let there : slice_get c.self.inside.packages.items (length c.self.inside.packages.items - 1) ≡ Some c.in-Some.inner.now =
    ap (λ (l : List Package). slice_get l (length l - 1)) (sym c.deref.ensures.value) ∙ sym c.in-Some.ensures.value in
    let top = last_is c.self.inside.packages.items c.in-Some.inner.now there in
    let at : slice_get c.self.inside.paths.entries c.in-Some.inner.now.mark.entries ≡ None =
    sym (got_at c.entries.result.now c.self.inside.paths.entries c.in-Some.inner.now.mark.entries c.get.result c.get.ensures.lookup c.entries.ensures) ∙ ap option_copied c.in-None-get.is in
    let r = c.nothing-in-None-get.result in
    let o = option_map (λ e. e.path) (slice_get (walk_of c.self.inside).entries r.number) in
    subst (λ (w : Walk). IsBehindTerm w.packages w r.keeps (certain_there r.settled (option_map (λ e. e.path) (slice_get w.entries r.number)))) c.self.view_is
    (nothing_behind c.self.inside c.in-Some.inner.now top.0 top.1 r.keeps (certain_there r.settled o) at c.nothing-in-None-get.ensures.keeps (ap (λ (p : Presence). certain_there p o) c.nothing-in-None-get.ensures.settled ∙ none_certain o))
