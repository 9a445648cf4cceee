use Rattle.std.proofs.Common.{◌∙◌, ap}
use Rattle.acpi_space.specs.Search.{tries}
use Rattle.acpi_name_checks.proofs.Standing.{shows_one_more}
use Rattle.acpi_name_checks.proofs.guards.Guards.show.Goals as goal

pub invariant_of-self-2 : goal.invariant_of-self-2
invariant_of-self-2 c = record {
  stands = shows_one_more _ _ _ _ _ _ c.args.self.now.stands c.args.name c.in_ok-paths.paths _ c.requires
      (c.in_ok-paths.ensures ∙ ap (tries c.args.self.now.scope.now) c.view.ensures.parts) c.in_ok-push.ensures.items;
}
