use Rattle.std.proofs.Common.{◌≡◌, [], ◌∷◌, ◌++◌, Some, None, ap, ◌∙◌, rules}
use Rattle.std.specs.List.{last_or}
use Rattle.acpi_name.specs.Paths.{parent_of}
use Rattle.acpi_name.proofs.Parents.{parent_of-push}
use Rattle.acpi_pass.proofs.Searches.{joined_parts}
use Rattle.acpi_pass.proofs.items.go_below.Goals as goal

pub returns-in_ok-push-in-Some-clause-below : goal.returns-in_ok-push-in-Some-clause-below
returns-in_ok-push-in-Some-clause-below c =
    let around : parent_of c.args.inside ≡ c.args.path.now = search rules in
    let last : last_or None c.args.inside ≡ Some c.in-Some.seg = search rules in
    let longer : c.push.new.self ≡ c.args.path.now ++ c.in-Some.seg ∷ [] = search rules in
    (longer ∙ joined_parts c.args.inside c.args.path.now c.in-Some.seg around last, ap parent_of longer ∙ parent_of-push c.args.path.now c.in-Some.seg)
