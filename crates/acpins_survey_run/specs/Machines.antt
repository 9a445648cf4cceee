-- The tables of the machine that a command is over, or of two.
use Rattle.std.specs.Prelude.{ℕ, List, Option}
use Rattle.std.specs.Option.{option_map}
use Rattle.acpins_survey_run.specs.declared.tables.FoundMachines.{FoundMachines}

-- the tables of one machine, and those of another one, if there are two
pub record Machines : Type 0 where
  pub first : List (List ℕ)
  pub second : Option (List (List ℕ))

abbrev pub machines_in : FoundMachines → Machines
machines_in found = record {
  first = found.first.tables.items;
  second = option_map (λ f. f.tables.items) found.second;
}
