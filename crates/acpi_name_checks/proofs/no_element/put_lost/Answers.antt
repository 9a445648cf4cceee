use Rattle.std.proofs.Common.{◌≡◌, ◌∙◌, false, map, sym, arith}
use Rattle.std.proofs.lemmas.Grind.{common_steps}
use Rattle.acpi_name.specs.NameEqual.{name_eq}
use Rattle.acpi_conditions.specs.Entries.{is_empty}
use Rattle.acpi_entries.specs.EntryLinks.{seen_link}
use Rattle.acpi_name_checks.specs.NoElements.{is_element}
use Rattle.acpi_name_checks.proofs.Firsts.{stays_if_listed, stays_if_not}
use Rattle.acpi_name_checks.proofs.no_element.put_lost.Goals as goal
use Rattle.acpi_name_checks.proofs.no_element.put_lost.Goals.{then-not-is_element-via-then-not-is_element, then-not-is_element-via-else-not-is_element+then-has}

pub returns-then-not-is_element-clause-names : goal.returns-then-not-is_element-clause-names
returns-then-not-is_element-clause-names c =
    let names = map (λ n. n.now) c.args.names.now.items in
    let name = c.args.used.name.now in
    let is_empty_there = is_empty (seen_link c.args.seen.now name).paths in
    elim c.then-not-is_element.branch [
      | then-not-is_element-via-then-not-is_element w ↦ (let no : is_element c.args.used.role ≡ false = grind (arith, common_steps) in stays_if_not name_eq (is_element c.args.used.role) is_empty_there names name no)
      | then-not-is_element-via-else-not-is_element+then-has w ↦ stays_if_listed name_eq (is_element c.args.used.role) is_empty_there names name (sym (c.requires name) ∙ sym w.has.ensures ∙ w.if-has.true)
    ]
