use Rattle.std.proofs.Common.{◌≡◌, List, ℕ, drop, length, ap, subst, ◌∙◌}
use Rattle.acpi_declare.specs.Tables.{code_of}
use Rattle.acpi_places.specs.declared.place.CodePlace.{CodePlace}
use Rattle.acpi_places.specs.steps.Walking.{AddsPlaces}
use Rattle.acpi_places.proofs.Begun.{table_spelled, table_found}
use Rattle.acpi_places.proofs.tables.table_places.Goals as goal

pub add_places-requires : goal.add_places-requires
add_places-requires c =
    let r = c.requires in
    let begins : c.skip.new.self.bytes ≡ code_of c.args.table.now = c.skip.ensures.bytes ∙ ap (λ (b : List ℕ). drop 36 b) c.shared-code.ensures.bytes in
    let ends : c.skip.new.self.end ≡ length c.args.table.now = c.skip.ensures.same ∙ c.shared-code.ensures.ends in
    (r.0, table_spelled c.args.depth c.args.number c.args.table.now r.0 r.1 c.get.result c.skip.new.self c.get.ensures.number begins ends)

pub returns : goal.returns
returns c = λ is h.
    let left = c.skip.new.self in
    let begins : left.bytes ≡ code_of c.args.table.now = c.skip.ensures.bytes ∙ ap (λ (b : List ℕ). drop 36 b) c.shared-code.ensures.bytes in
    let ends : left.end ≡ length c.args.table.now = c.skip.ensures.same ∙ c.shared-code.ensures.ends in
    let found = c.add_places.new.places.items in
    let spelled = table_spelled c.args.depth c.args.number c.args.table.now is h c.get.result left c.get.ensures.number begins ends in
    table_found c.args.depth c.args.number c.args.table.now is h c.get.result left c.get.ensures.number begins ends found
    (subst (λ (l : List CodePlace). AddsPlaces c.args.number left is l found) c.new-places.ensures.items (c.in_ok-add_places.ensures is spelled))
