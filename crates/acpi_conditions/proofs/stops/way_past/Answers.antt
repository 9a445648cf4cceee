use Rattle.std.proofs.Common.{◌++◌, drop, get_or, arith}
use Rattle.acpi_conditions.specs.Turns.{way_of}
use Rattle.acpi_conditions.specs.declared.stops.Stop.TheVariants.{Returns}
use Rattle.acpi_conditions.specs.declared.stops.StopAt.{StopAt}
use Rattle.acpi_conditions.specs.steps.Stops.{pasts}
use Rattle.std.proofs.lemmas.List.{get_or_default}
use Rattle.acpi_conditions.proofs.StopLists.{past_way, past_grows, past_more, past_all}
use Rattle.acpi_conditions.proofs.stops.way_past.Goals as goal

pub loop-i-preserved : goal.loop-i-preserved
loop-i-preserved c =
    let x : StopAt = get_or c.args.stops.now c.loop-i.i (record { place = 0; kind = Returns }) in
    record {
      grown = past_grows c.loop-i.ways c.turn.new.self c.loop-i.way c.in_ok-way.way x c.in_ok-way.ensures.ok c.in_ok-way.ensures.number c.args.ways.now c.loop-i.invariant.grown;
      known = past_way c.loop-i.ways c.turn.new.self c.loop-i.way c.in_ok-way.way x c.in_ok-way.ensures.ok c.in_ok-way.ensures.number;
      way = past_more c.loop-i.ways c.turn.new.self c.loop-i.way c.in_ok-way.way x c.in_ok-way.ensures.ok c.in_ok-way.ensures.number (way_of c.args.ways.now c.args.way ++ pasts (drop c.args.from c.args.stops.now)) c.args.stops.now c.loop-i.i
          c.loop-i.invariant.way (omega arith) (get_or_default c.args.stops.now c.loop-i.i (record { place = 0; kind = Returns }) x (omega arith));
    }

pub returns-clause-way : goal.returns-clause-way
returns-clause-way c = past_all _ _ c.args.stops.now c.loop-i.i c.loop-i.invariant.way (omega arith)
