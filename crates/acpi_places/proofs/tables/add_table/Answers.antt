use Rattle.std.proofs.Common.{List, map, ap, ◌∙◌}
use Rattle.std.proofs.lemmas.Result.{on_ok_weaker}
use Rattle.std.specs.FinMap.{get}
use Rattle.acpi_space.specs.Lookups.{union}
use Rattle.acpi_declare.specs.Notes.{method_of}
use Rattle.acpi_pass.specs.declared.notes.Method as code
use Rattle.acpi_places.specs.declared.place.CodePlace.{CodePlace}
use Rattle.acpi_places.specs.Places.{by_path}
use Rattle.acpi_places.proofs.tables.add_table.Goals as goal

pub returns : goal.returns
returns c = λ is h.
    let old = get c.args.places.now in
    on_ok_weaker c.put_all.result
    (λ put. record {
      places = c.in_ok-found.found.items;
      spelled = c.in_ok-found.ensures is h;
      added = put ∙ ap (λ (ms : List code.Method). union old (by_path (map method_of ms) c.deref-2.result.now)) c.deref.ensures.value
          ∙ ap (λ (cs : List CodePlace). union old (by_path (map method_of c.args.notes.now.methods.items) cs)) c.deref-2.ensures.value;
    })
    c.put_all.ensures
