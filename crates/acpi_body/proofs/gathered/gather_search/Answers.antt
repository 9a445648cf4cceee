use Rattle.std.proofs.Common.{sym, ◌∙◌}
use Rattle.acpi_name.specs.NameRefs.{name_parts}
use Rattle.acpi_body.proofs.Unasked.{none_gathered}
use Rattle.acpi_body.proofs.gathered.gather_search.Goals as goal

pub returns-then-not-branch : goal.returns-then-not-branch
returns-then-not-branch g c =
    none_gathered (g.Q.Wanted.wanted c.args.wanted.now) c.args.context.now c.args.gathered.now (c.args.locals.now, name_parts c.args.name)
    (sym c.in_ok-is_asked.ensures ∙ c.if-not-branch.true)
