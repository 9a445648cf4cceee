use Rattle.std.proofs.Common.{rules, arith, ◌≡◌, ◌++◌}
use Rattle.std.specs.Ordering.{is_lt}
use Rattle.std.proofs.lemmas.Grind.{common_steps}
use Rattle.std.proofs.lemmas.List.Sorted.{answers_always, ranks_by}
use Rattle.acpi_name.specs.Paths.{path_cmp}
use Rattle.acpi_name.specs.steps.PathOrder.{path_cmp_total}
use Rattle.acpi_locals.specs.LocalViews.{local_views}
use Rattle.acpi_locals.specs.declared.locals.LocalObject.{LocalObject}
use Rattle.acpi_use_list.specs.LocalLists.{locals_of_bodies}
use Rattle.acpi_use_list.proofs.local_list.locals_of_machine.Goals as goal

pub returns : goal.returns
returns c =
    let ranks = ranks_by path_cmp_total (λ (l : LocalObject). l.path) in
    let answers = answers_always _ _ _ (λ f a r next called. search rules) in
    let all : local_views c.each.found.items ≡ locals_of_bodies c.args.survey.now 0 c.args.bodies.now = grind (arith, common_steps) in
    record {
      standing = c.each.found.items;
      all = all;
      each = c.sort_by.ensures.permutation;
      ascending = c.in_ok-sort_by.ensures.sorted (λ x y. is_lt (path_cmp x.path y.path)) ranks answers;
      stable = c.sort_by.ensures.stable (λ x y. is_lt (path_cmp x.path y.path)) ranks answers;
    }
