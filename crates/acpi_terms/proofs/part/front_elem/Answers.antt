use Rattle.std.proofs.Common.{◌≡◌, Ok, length}
use Rattle.acpi_terms.proofs.ReadParts.{elem_exact}
use Rattle.acpi_code.specs.steps.Fields.{field_at}
use Rattle.acpi_tree.specs.View.{field_view}
use Rattle.acpi_terms.proofs.part.front_elem.Goals as goal

pub returns-clause-exact : goal.returns-clause-exact
returns-clause-exact c =
    let read : field_at (length c.args.bytes.now) c.args.bytes.now ≡ Ok (field_view c.in_ok-elem.elem, c.field_element.new.code.bytes) = rw (c.new-code.ensures.ends, c.new-code.ensures.bytes) at c.in_ok-elem.ensures.0 in
    rw c.left.ensures (elem_exact c.args.bytes.now c.field_element.new.code.bytes (field_view c.in_ok-elem.elem) read)
