use Rattle.std.proofs.Common.{refl, rules}
use Rattle.acpi_space.proofs.Laid.{taken_below, free_below, inserted_free, inserted_both, refused_both}
use Rattle.acpi_space.proofs.overlay.OverlaySpace.insert.Goals as goal

pub returns-then-is_some-clause-refused : goal.returns-then-is_some-clause-refused
returns-then-is_some-clause-refused g c = (taken_below _ _ _ c.lent_value.result _ c.lent_value.ensures c.is_some.ensures c.if-is_some.true, refl)

pub returns-clause-free : goal.returns-clause-free
returns-clause-free g c = inserted_free _ _ _ c.insert.result (free_below _ _ c.lent_value.result _ c.lent_value.ensures c.is_some.ensures c.if-is_some.false) c.insert.ensures.free

pub returns-clause-ok : goal.returns-clause-ok
returns-clause-ok g c = inserted_both _ _ _ _ _ c.insert.result (free_below _ _ c.lent_value.result _ c.lent_value.ensures c.is_some.ensures c.if-is_some.false) c.insert.ensures.ok

pub returns-clause-refused : goal.returns-clause-refused
returns-clause-refused g c = refused_both _ _ _ _ c.insert.result (free_below _ _ c.lent_value.result _ c.lent_value.ensures c.is_some.ensures c.if-is_some.false) c.insert.ensures.refused

-- What a wrong body leaves open is named too: its refusal then names it, and needs no second search.
pub returns-then-is_some-clause-free : goal.returns-then-is_some-clause-free
returns-then-is_some-clause-free g c = search rules

pub returns-then-is_some-clause-ok : goal.returns-then-is_some-clause-ok
returns-then-is_some-clause-ok g c = search rules
