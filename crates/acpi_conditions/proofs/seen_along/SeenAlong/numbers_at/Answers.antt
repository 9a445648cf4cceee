use Rattle.std.proofs.Common.{◌≡◌, ◌∙◌, map, slice_get, refl, ap}
use Rattle.std.specs.List.{filter}
use Rattle.std.proofs.lemmas.Result.{IfOk-weaker}
use Rattle.acpi_conditions.specs.Turns.{turn_of}
use Rattle.acpi_conditions.specs.Met.{numbers_beyond}
use Rattle.acpi_conditions.specs.Views.{WayView}
use Rattle.acpi_conditions.specs.declared.seen.Test.TheVariants.{Possible}
use Rattle.acpi_conditions.specs.steps.Views.{passes_if}
use Rattle.acpi_conditions.proofs.Meetings.{numbers_from}
use Rattle.acpi_conditions.proofs.seen_along.SeenAlong.numbers_at.Goals as goal

pub returns : goal.returns
returns c =
    IfOk-weaker c.possible_numbers.result
    (λ v. v.items ≡ filter (λ n. passes_if Possible c.self.inside.ways.now (map turn_of c.self.inside.turns.now) (slice_get c.entries.result.now n)) (map (λ x. x.number) c.at.result.sights.now))
    (λ v. v.items ≡ numbers_beyond c.args.self.now.way c.args.path.now 0 c.args.self.now.entries)
    (λ v is. numbers_from c.self.inside.ways.now c.self.inside.paths.now.entries (map turn_of c.self.inside.turns.now) c.args.path.now c.self.inside.turns.now c.entries.result.now c.at.result.sights.now v.items refl c.entries.ensures c.at.ensures.sights is
    ∙ ap (λ (u : WayView). numbers_beyond u.way c.args.path.now 0 u.entries) c.self.view_is)
    c.possible_numbers.ensures
