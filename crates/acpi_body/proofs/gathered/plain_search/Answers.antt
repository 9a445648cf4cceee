use Rattle.std.proofs.Common.{◌≤◌, length, ap, arith}
use Rattle.acpi_body.specs.Arguments.{namespace_of, defined_with}
use Rattle.acpi_body.proofs.Missed.{is_found, is_not_found, asked_inside, asked_everywhere}
use Rattle.acpi_body.proofs.Overlaid.{depth_within}
use Rattle.acpi_body.proofs.gathered.plain_search.Goals as goal

pub overflow_add-depth : goal.overflow_add-depth
overflow_add-depth g c =
    let w : c.in-Some.depth ≤ length c.args.context.now.method =
    depth_within (namespace_of c.args.context.now.objects) c.args.locals.now c.args.context.now.method c.args.seg c.in_ok-depth.field-0 c.in-Some.depth c.in_ok-depth.ensures c.in-Some.is in
    omega (arith, w, ap length c.method-method.ensures, c.len-len.ensures.count, c.len-len.ensures.small)

pub below-requires : goal.below-requires
below-requires g c =
    let w : c.in-Some.depth ≤ length c.args.context.now.method =
    depth_within (namespace_of c.args.context.now.objects) c.args.locals.now c.args.context.now.method c.args.seg c.in_ok-depth.field-0 c.in-Some.depth c.in_ok-depth.ensures c.in-Some.is in
    omega (arith, w, ap length c.method-method.ensures)

pub returns-in_ok-missed-in-Some-clause-missed : goal.returns-in_ok-missed-in-Some-clause-missed
returns-in_ok-missed-in-Some-clause-missed g c =
    asked_inside (defined_with (namespace_of c.args.context.now.objects) c.args.locals.now) c.args.seg c.args.context.now.method c.in_ok-depth.field-0 c.in_ok-depth.ensures
    (g.Q.Wanted.wanted c.args.wanted.now) c.in-Some.depth c.method-method.result.now c.in_ok-missed-in-Some.missed.items c.in-Some.is c.in_ok-missed-in-Some.ensures c.method-method.ensures

pub returns-in_ok-missed-in-Some-clause-found : goal.returns-in_ok-missed-in-Some-clause-found
returns-in_ok-missed-in-Some-clause-found g c = is_found (defined_with (namespace_of c.args.context.now.objects) c.args.locals.now) c.args.seg c.args.context.now.method c.in_ok-depth.field-0 c.in_ok-depth.ensures c.in-Some.depth c.in-Some.is

pub returns-in_ok-missed-in-None-clause-missed : goal.returns-in_ok-missed-in-None-clause-missed
returns-in_ok-missed-in-None-clause-missed g c =
    asked_everywhere (defined_with (namespace_of c.args.context.now.objects) c.args.locals.now) c.args.seg c.args.context.now.method c.in_ok-depth.field-0 c.in_ok-depth.ensures
    (g.Q.Wanted.wanted c.args.wanted.now) c.method-method.result.now c.in_ok-missed-in-None.missed.items c.in-None.is c.in_ok-missed-in-None.ensures c.method-method.ensures

pub returns-in_ok-missed-in-None-clause-found : goal.returns-in_ok-missed-in-None-clause-found
returns-in_ok-missed-in-None-clause-found g c = is_not_found (defined_with (namespace_of c.args.context.now.objects) c.args.locals.now) c.args.seg c.args.context.now.method c.in_ok-depth.field-0 c.in_ok-depth.ensures c.in-None.is
