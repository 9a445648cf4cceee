use Rattle.std.proofs.Common.{◌++◌, [], ◌∷◌, ◌+◌, ◌-◌, map, length, take}
use Rattle.acpi_space.specs.Search.{beginnings}
use Rattle.acpi_space.proofs.Filters.{all_pass}
use Rattle.acpi_space.proofs.wanted.AllPathsWanted.below.Goals as goal

pub returns : goal.returns
returns c = all_pass c.paths_below.result (λ v. v.items) (map (λ q. q ++ c.args.seg ∷ []) (take (length c.args.scope.now + 1 - c.args.outer) (beginnings c.args.scope.now))) c.paths_below.ensures
