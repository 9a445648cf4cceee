use Rattle.std.proofs.Common.{rules, tests}
use Rattle.std.proofs.lemmas.Iterator.{YieldsList-from_slice}
use Rattle.std.proofs.lemmas.Iterator.Search.{position_from_yields_List}
use Rattle.acpi_conditions.specs.Links.{is_round}
use Rattle.acpi_conditions.specs.Turns.{turn_of}
use Rattle.acpi_conditions.proofs.WayTests.{outside_some, outside_none}
use Rattle.acpi_conditions.proofs.turns.outside_loops.Goals as goal

pub returns-in-Some : goal.returns-in-Some
returns-in-Some c =
    outside_some c.args.turns.now c.position.result c.in-Some.count (position_from_yields_List (λ t. is_round (turn_of t)) _ _ c.position.result c.position.ensures.ran (YieldsList-from_slice c.args.turns.now c.iter.ensures.rest) (λ x b q k. search (rules, tests)))
    c.in-Some.is

pub returns-in-None : goal.returns-in-None
returns-in-None c =
    outside_none c.args.turns.now c.position.result (position_from_yields_List (λ t. is_round (turn_of t)) _ _ c.position.result c.position.ensures.ran (YieldsList-from_slice c.args.turns.now c.iter.ensures.rest) (λ x b q k. search (rules, tests)))
    c.in-None.is
