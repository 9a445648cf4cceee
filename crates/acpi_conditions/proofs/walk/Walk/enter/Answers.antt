use Rattle.std.proofs.Common.{refl, ap, ◌∙◌}
use Rattle.acpi_conditions.specs.Walk.{Walk, package_at}
use Rattle.acpi_conditions.specs.declared.packages.Package.{Package}
use Rattle.acpi_conditions.specs.steps.Packages.{kind_of}
use Rattle.acpi_conditions.specs.steps.Moves.{with_package}
use Rattle.acpi_conditions.proofs.Marks.{IsNow}
use Rattle.acpi_conditions.proofs.KeptWalks.{no_if, packages_still}
use Rattle.acpi_conditions.proofs.WalkPackages.{enter_kept, enter_same}
use Rattle.acpi_conditions.proofs.walk.Walk.enter.Goals as goal

pub invariant_of-self : goal.invariant_of-self
invariant_of-self c = no_if c.self.inside c.self.invariant

pub invariant_of-self-2 : goal.invariant_of-self-2
invariant_of-self-2 c =
    let p : Package = record { kind = c.args.kind; place = c.args.place; scope = c.in_ok-copy.field-0; way = c.self.inside.way; mark = c.mark.result; stops = c.len.result } in
    let now : IsNow c.self.inside.paths c.mark.result = record { entries = c.mark.ensures.entries; certain = c.mark.ensures.certain; hidden = c.mark.ensures.hidden; in_loop = c.mark.ensures.in_loop } in
    enter_kept c.self.inside c.self.invariant c.push.new.self p c.in_ok-push.ensures.items refl now

pub returns : goal.returns
returns c =
    let p : Package = record { kind = c.args.kind; place = c.args.place; scope = c.in_ok-copy.field-0; way = c.self.inside.way; mark = c.mark.result; stops = c.len.result } in
    let now : IsNow c.self.inside.paths c.mark.result = record { entries = c.mark.ensures.entries; certain = c.mark.ensures.certain; hidden = c.mark.ensures.hidden; in_loop = c.mark.ensures.in_loop } in
    enter_same c.self.inside c.self.invariant c.push.new.self p c.in_ok-push.ensures.items c.in_ok-copy.ensures refl now (c.len.ensures ∙ c.self.inside.stops.ok.0)
    ∙ ap (λ (w : Walk). with_package (package_at (kind_of c.args.kind) c.args.place w) w) c.self.view_is

pub invariant_of-self-in_err-push : goal.invariant_of-self-in_err-push
invariant_of-self-in_err-push c = packages_still c.self.inside c.self.invariant c.push.new.self c.in_err-push.ensures.items
