use Rattle.std.proofs.Common.{◌≡◌, Some, None, sym, subst, rules}
use Rattle.std.specs.FinMap.{get}
use Rattle.acpi_space.specs.Spaces.{is_defined}
use Rattle.acpi_space.specs.Search.{answer}
use Rattle.acpi_pass.specs.Namespace.{namespace_of}
use Rattle.acpi_pass.specs.steps.Outcomes.{IsPassErrorOf}
use Rattle.acpi_pass.proofs.Searches.{answer_defined, opened_is}
use Rattle.acpi_pass.proofs.placing.opened_path.Goals as goal

pub returns-in-Ok-Missing : goal.returns-in-Ok-Missing
returns-in-Ok-Missing g c =
    let objects = g.S.Space.contents c.args.objects.now in
    let none : answer (is_defined objects) c.args.scope.now c.args.name.now ≡ None = search rules in
    subst (IsPassErrorOf c.refuse_missing.result) (sym (opened_is objects c.args.scope.now c.args.name.now None none)) (c.refuse_missing.ensures (namespace_of objects))

pub unreachable-requires : goal.unreachable-requires
unreachable-requires g c =
    let objects = g.S.Space.contents c.args.objects.now in
    let found : answer (is_defined objects) c.args.scope.now c.args.name.now ≡ Some c.in-Ok-At.path = search rules in
    let none : get objects c.in-Ok-At.path ≡ None = search rules in
    answer_defined objects c.args.scope.now c.args.name.now c.in-Ok-At.path found none
