use Rattle.std.proofs.Common.{rules, ◌≡◌, map, ap, sym, ◌∙◌}
use Rattle.std.specs.FinMap.{get}
use Rattle.acpi_name.proofs.EqualPaths.{path_eq_Decides}
use Rattle.acpins_records.proofs.NextPairs.{value_next}
use Rattle.acpins_records.proofs.in_order.InOrder.get.Goals as goal

pub returns-in-Some-clause-value : goal.returns-in-Some-clause-value
returns-in-Some-clause-value g c =
    let space = c.self.inside.space.now in
    let pair = c.in-Some.field-0.now in
    let there = c.in-Some.ensures.lookup.3 in
    let same : pair.0 ≡ c.args.path.now = (path_eq_Decides pair.0 c.args.path.now).0 (search rules) in
    let viewed : c.args.self.now ≡ space = search rules in
    sym (ap (λ m. get m c.args.path.now) viewed ∙ ap (get space) (sym same)
    ∙ value_next space c.deref.result.now c.self.inside.next pair (ap (map (λ e. (e.0, e.1.now))) c.deref.ensures.value ∙ c.self.invariant) there.0 (there.1 pair))
