use Rattle.std.proofs.Common.{◌≡◌, map, slice_get}
use Rattle.std.specs.List.{filter}
use Rattle.std.proofs.lemmas.Result.{IfOk-weaker}
use Rattle.acpi_conditions.specs.Turns.{turn_of}
use Rattle.acpi_conditions.specs.Met.{numbers_met}
use Rattle.acpi_conditions.specs.declared.seen.Test.TheVariants.{Possible}
use Rattle.acpi_conditions.specs.steps.Views.{passes_if}
use Rattle.acpi_conditions.proofs.Meetings.{numbers_are}
use Rattle.acpi_conditions.proofs.met.Met.numbers_at.Goals as goal

pub returns : goal.returns
returns c =
    IfOk-weaker c.possible_numbers.result
    (λ v. v.items ≡ filter (λ n. passes_if Possible c.self.inside.ways.now (map turn_of c.deref.result.now) (slice_get c.entries.result.now n)) (map (λ x. x.number) c.at.result.sights.now))
    (λ v. v.items ≡ numbers_met c.args.self.now c.args.path.now)
    (λ v is. numbers_are c.self.inside c.args.self.now c.args.path.now c.deref.result.now c.entries.result.now c.at.result.sights.now v.items c.self.view_is c.deref.ensures.value c.entries.ensures c.at.ensures.sights is)
    c.possible_numbers.ensures
