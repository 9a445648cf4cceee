use Rattle.std.proofs.Common.{refl}
use Rattle.acpi_conditions.specs.declared.packages.Kind.TheVariants.{First}
use Rattle.acpi_conditions.specs.declared.packages.Package.{Package}
use Rattle.acpi_conditions.proofs.Marks.{IsNow}
use Rattle.acpi_conditions.proofs.KeptWalks.{no_if}
use Rattle.acpi_conditions.proofs.WalkPackages.{lost_kept}
use Rattle.acpi_conditions.proofs.walk.Walk.lost_if.Goals as goal

pub invariant_of-self : goal.invariant_of-self
invariant_of-self c = no_if c.self.inside c.self.invariant

pub invariant_of-self-2 : goal.invariant_of-self-2
invariant_of-self-2 c =
    let p : Package = record { kind = First; place = c.args.place; scope = c.in_ok-copy.field-0; way = c.self.inside.way; mark = c.mark.result; stops = c.len.result } in
    let now : IsNow c.self.inside.paths c.mark.result = record { entries = c.mark.ensures.entries; certain = c.mark.ensures.certain; hidden = c.mark.ensures.hidden; in_loop = c.mark.ensures.in_loop } in
    lost_kept c.self.inside c.self.invariant p refl now
