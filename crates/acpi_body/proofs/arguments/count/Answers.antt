-- What a wrong body leaves open is answered by a term here: its refusal then names it, and needs no second search.
use Rattle.std.proofs.Common.{◌≡◌, ℕ, List, None, rules, refl, sym}
use Rattle.std.specs.FinMap.{get}
use Rattle.acpi_name.specs.Names.{Segment, NameParts, plain_segment}
use Rattle.acpi_name.specs.NameRefs.{name_parts}
use Rattle.acpi_name.specs.Paths.{place_of}
use Rattle.acpi_space.specs.Lookups.{Lookup}
use Rattle.acpi_values.specs.Arguments.{Locals}
use Rattle.acpi_body.specs.Arguments.{Namespace, namespace_of, count_behind}
use Rattle.acpi_body.specs.steps.Setting.{count_in}
use Rattle.acpi_body.proofs.arguments.count.Goals as goal

-- a name that has no place is followed by nothing
count_above : (objects : Namespace) (externals : Lookup ℕ) (s : List Segment) (locals : Locals) (n : NameParts) → plain_segment n ≡ None → place_of s n ≡ None
    → count_behind objects externals s locals n ≡ 0
count_above objects externals s locals n plain none = rw (plain, none) refl

pub returns-in-Err-AboveRoot : goal.returns-in-Err-AboveRoot
unfolding count_in
returns-in-Err-AboveRoot g c =
    let s = c.args.context.now in
    let plain : plain_segment (name_parts c.args.name) ≡ None = search rules in
    let none : place_of s.method (name_parts c.args.name) ≡ None = search rules in
    sym (count_above (namespace_of s.objects) (get s.externals) s.method c.args.locals.now (name_parts c.args.name) plain none)
