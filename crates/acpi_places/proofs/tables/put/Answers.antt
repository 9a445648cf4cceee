use Rattle.std.proofs.Common.{ap, subst, ◌∙◌}
use Rattle.std.specs.FinMap.{get}
use Rattle.acpi_space.specs.Refusal.{IsRefusal}
use Rattle.acpi_space.specs.Spaces.{PathMap}
use Rattle.acpi_space.specs.declared.space.Refused.{Refused}
use Rattle.acpi_places.specs.declared.place.CodePlace.{CodePlace}
use Rattle.acpi_places.proofs.Added.{put_free, put_taken}
use Rattle.acpi_places.proofs.tables.put.Goals as goal

pub returns-in-Ok : goal.returns-in-Ok
returns-in-Ok c = ap (λ (m : PathMap CodePlace). get m) c.in-Ok.ensures.ok ∙ put_free c.args.places.now c.args.path c.args.place c.in-Ok.ensures.free

pub returns-in-Err-Taken : goal.returns-in-Err-Taken
returns-in-Err-Taken c =
    let taken = subst (λ (e : Refused CodePlace). IsRefusal c.args.places.now c.args.path c.args.place e) c.in-Err-Taken.field-0-is c.in-Err-Taken.ensures.refused in
    ap (λ (m : PathMap CodePlace). get m) c.in-Err-Taken.ensures.err ∙ put_taken c.args.places.now c.args.path c.args.place taken.0
