use Rattle.std.proofs.Common.{◌∙◌, ap, refl}
use Rattle.std.specs.FinMap as map
use Rattle.acpi_space.proofs.Maps.{some_of_view, none_of_view, put_is_insert}
use Rattle.acpi_space.proofs.map_space.MapSpaceSpace.insert.Goals as goal

pub returns-then-contains_key-clause-refused : goal.returns-then-contains_key-clause-refused
returns-then-contains_key-clause-refused g c = (some_of_view _ _ _ _ c.self.view_is c.contains_key.ensures c.if-contains_key.true, refl)

pub returns-in-Ok-clause-free : goal.returns-in-Ok-clause-free
returns-in-Ok-clause-free g c = none_of_view _ _ _ _ c.self.view_is c.contains_key.ensures c.if-contains_key.false

pub returns-in-Ok-clause-ok : goal.returns-in-Ok-clause-ok
returns-in-Ok-clause-ok g c = put_is_insert _ _ _ _ c.in-Ok.ensures.updates.0 ∙ ap (λ m. map.insert m c.args.path c.args.value) c.self.view_is

pub returns-clause-refused : goal.returns-clause-refused
returns-clause-refused g c = (none_of_view _ _ _ _ c.self.view_is c.contains_key.ensures c.if-contains_key.false, ap (λ p. p.1) c.in-Err.ensures.value_returned)
