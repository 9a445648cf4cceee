use Rattle.acpi_name.specs.NameRefs.{name_parts}
use Rattle.acpi_space.specs.Search.{missed}
use Rattle.acpi_space.specs.Spaces.{is_defined}
use Rattle.acpi_space.proofs.Filters.{all_passed}
use Rattle.acpi_space.proofs.wanted.misses.Goals as goal

pub returns-clause-missed : goal.returns-clause-missed
returns-clause-missed g c = all_passed c.wanted_misses.result (λ v. v.items)
    (missed (is_defined (g.S.Space.contents c.args.space.now)) c.args.scope.now (name_parts c.args.name)) c.wanted_misses.ensures.missed
