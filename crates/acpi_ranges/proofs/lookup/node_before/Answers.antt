use Rattle.std.proofs.Common.{◌-◌, length, refl, arith}
use Rattle.std.proofs.lemmas.Option.{slice_get_read}
use Rattle.acpi_outline.specs.View.{end_view}
use Rattle.acpi_ranges.proofs.Lookups.{none_before, last_before, fewer_inside}
use Rattle.acpi_ranges.proofs.lookup.node_before.Goals as goal

pub returns-then-count-eq0-clause-found : goal.returns-then-count-eq0-clause-found
returns-then-count-eq0-clause-found c start t =
    none_before c.args.place c.args.end start c.count_before-count.result c.args.lost c.args.nodes.now t c.count_before-count.ensures.parted (grind arith)

pub returns-clause-found : goal.returns-clause-found
returns-clause-found c start t =
    last_before c.args.place c.args.end start c.count_before-count.result (c.count_before-count.result - 1) c.args.lost c.args.nodes.now c.index-nodes-number.result c.place_of.result c.end_behind.result t
    c.count_before-count.ensures.parted (grind arith)
    (slice_get_read c.args.nodes.now (length c.args.nodes.now) (c.count_before-count.result - 1) c.index-nodes-number.result refl (grind arith) c.index-nodes-number.is) c.place_of.ensures c.end_behind.ensures

pub returns-clause-smaller : goal.returns-clause-smaller
returns-clause-smaller c =
    fewer_inside c.args.nodes.now (end_view c.args.lost) (c.count_before-count.result - 1) c.index-nodes-number.result
    (slice_get_read c.args.nodes.now (length c.args.nodes.now) (c.count_before-count.result - 1) c.index-nodes-number.result refl (grind arith) c.index-nodes-number.is)
