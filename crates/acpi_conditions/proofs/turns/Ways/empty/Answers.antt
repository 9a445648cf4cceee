use Rattle.std.proofs.Common.{List, sym, ap, ◌∙◌, refl}
use Rattle.acpi_conditions.specs.Entries.{Turn}
use Rattle.acpi_conditions.specs.Turns.{way_of}
use Rattle.acpi_conditions.proofs.WayTrees.{empty_way}
use Rattle.acpi_conditions.proofs.turns.Ways.empty.Goals as goal

pub returns-clause-way : goal.returns-clause-way
returns-clause-way c = ap (λ (x : List (List Turn)). way_of x (record { number = 0 })) (sym c.self.view_is) ∙ empty_way c.self.inside.last_turns.items 0 refl
