use Rattle.std.proofs.Common.{◌≡◌, ◌∙◌, false, not, [], ◌∷◌, ◌++◌, sym, ap, subst, arith}
use Rattle.std.proofs.lemmas.Grind.{common_steps}
use Rattle.acpi_locals.specs.LocalViews.{name_view}
use Rattle.acpi_uses.specs.steps.GuardWalks.{found_by}
use Rattle.acpi_name_checks.specs.Guarding.{is_guarded, shown_at}
use Rattle.acpi_name_checks.specs.NoNames.{has_same_name, is_unfound, no_name_of}
use Rattle.acpi_name_checks.specs.Views.{no_name_view, no_name_views}
use Rattle.acpi_name_checks.specs.steps.Adding.{name_of}
use Rattle.acpi_name_checks.specs.steps.NameSets.{HasNamesOf}
use Rattle.acpi_name_checks.proofs.Firsts.{map_more, stays_if_listed, stays_if_not}
use Rattle.acpi_name_checks.proofs.NameSets.{has_one_more}
use Rattle.acpi_name_checks.proofs.no_name.put_lost.Goals as goal
use Rattle.acpi_name_checks.proofs.no_name.put_lost.Goals.{then-not-is_unfound-via-then-not-is_unfound, then-not-is_unfound-via-else-not-is_unfound+then-has}

pub returns-then-not-is_unfound-clause-found : goal.returns-then-not-is_unfound-clause-found
returns-then-not-is_unfound-clause-found c =
    let names = no_name_views c.args.found.now.items in
    let n = name_view c.args.name.now in
    let unguarded = not (is_guarded c.args.guards.now.scope.now (shown_at (found_by c.args.guards.now.steps.items) n.line) n.link.name) in
    elim c.then-not-is_unfound.branch [
      | then-not-is_unfound-via-then-not-is_unfound w ↦ (let no : is_unfound n ≡ false = grind (arith, common_steps) in stays_if_not has_same_name (is_unfound n) unguarded names (no_name_of n) no)
      | then-not-is_unfound-via-else-not-is_unfound+then-has w ↦ stays_if_listed has_same_name (is_unfound n) unguarded names (no_name_of n) (sym (c.requires n.link.name) ∙ sym w.has.ensures ∙ w.if-has.true)
    ]

pub returns-clause-listed : goal.returns-clause-listed
returns-clause-listed c =
    let names = no_name_views c.args.found.now.items in
    let name = no_name_of (name_view c.args.name.now) in
    let more : no_name_views c.push.new.self.items ≡ names ++ name ∷ [] = ap no_name_views c.in_ok-push.ensures.items ∙ map_more no_name_view c.args.found.now.items _ in
    subst (HasNamesOf name_of c.insert.new.self) (sym more) (has_one_more name_of names name c.args.listed.now c.insert.new.self c.requires c.in_ok-insert.ensures)
