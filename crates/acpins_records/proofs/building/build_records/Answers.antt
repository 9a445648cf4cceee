use Rattle.std.proofs.Common.{◌≡◌, length, map, [], ap, refl, subst, sym, ◌∙◌}
use Rattle.std.specs.Prelude.{slice_index}
use Rattle.std.specs.FinMap.{entries, get}
use Rattle.std.specs.Vec.{with_items}
use Rattle.std.proofs.lemmas.List.{with_items_is}
use Rattle.acpi_declare.specs.Links.{links_at}
use Rattle.acpins_records.specs.declared.building.Records.{Records}
use Rattle.acpins_records.specs.declared.building.RecordCollector.{RecordCollector}
use Rattle.acpins_output.specs.steps.Lines.{objects_by_path}
use Rattle.acpins_records.specs.steps.Adding.{AddsTargets, placed_from}
use Rattle.acpins_records.specs.steps.Kinds.{AllSuit}
use Rattle.acpins_records.specs.steps.Seeing.{AreFirst}
use Rattle.acpins_records.proofs.Placed.{length-placed}
use Rattle.acpins_records.proofs.Whole.{as_many, nothing_seen, paths_ascend, records_whole}
use Rattle.acpins_records.proofs.building.build_records.Goals as goal

pub put_targets-requires : goal.put_targets-requires
put_targets-requires c =
    let first : RecordCollector = record { records = c.new.result; paths = c.new-2.result; wanted = c.new-3.result; links = c.args.links; codes = c.in_ok-in_order.in_order } in
    let seen =
    c.in_ok-visit_pairs.ensures first [] (nothing_seen first c.new.ensures.objects c.new.ensures.targets c.new.ensures.text c.new.ensures.parts c.new.ensures.bytes c.new-2.ensures c.new-3.ensures.items) in
    paths_ascend c.args.objects.now c.visit_pairs.new.visitor.paths seen.paths_are

pub tree_of-requires : goal.tree_of-requires
tree_of-requires c =
    let first : RecordCollector = record { records = c.new.result; paths = c.new-2.result; wanted = c.new-3.result; links = c.args.links; codes = c.in_ok-in_order.in_order } in
    let seen =
    c.in_ok-visit_pairs.ensures first [] (nothing_seen first c.new.ensures.objects c.new.ensures.targets c.new.ensures.text c.new.ensures.parts c.new.ensures.bytes c.new-2.ensures c.new-3.ensures.items) in
    paths_ascend c.args.objects.now c.visit_pairs.new.visitor.paths seen.paths_are

pub set_places-requires-clause-parents : goal.set_places-requires-clause-parents
set_places-requires-clause-parents c =
    let first : RecordCollector = record { records = c.new.result; paths = c.new-2.result; wanted = c.new-3.result; links = c.args.links; codes = c.in_ok-in_order.in_order } in
    let seen =
    c.in_ok-visit_pairs.ensures first [] (nothing_seen first c.new.ensures.objects c.new.ensures.targets c.new.ensures.text c.new.ensures.parts c.new.ensures.bytes c.new-2.ensures c.new-3.ensures.items) in
    c.in_ok-tree.ensures.counts.0 ∙ as_many first c.visit_pairs.new.visitor (entries c.args.objects.now) seen ∙ sym (ap length c.deref_mut.ensures.value)

pub set_places-requires-clause-ends : goal.set_places-requires-clause-ends
set_places-requires-clause-ends c =
    let first : RecordCollector = record { records = c.new.result; paths = c.new-2.result; wanted = c.new-3.result; links = c.args.links; codes = c.in_ok-in_order.in_order } in
    let seen =
    c.in_ok-visit_pairs.ensures first [] (nothing_seen first c.new.ensures.objects c.new.ensures.targets c.new.ensures.text c.new.ensures.parts c.new.ensures.bytes c.new-2.ensures c.new-3.ensures.items) in
    c.in_ok-tree.ensures.counts.1 ∙ as_many first c.visit_pairs.new.visitor (entries c.args.objects.now) seen ∙ sym (ap length c.deref_mut.ensures.value)

pub returns : goal.returns
returns c suits =
    let first : RecordCollector = record { records = c.new.result; paths = c.new-2.result; wanted = c.new-3.result; links = c.args.links; codes = c.in_ok-in_order.in_order } in
    let seen =
    c.in_ok-visit_pairs.ensures first [] (nothing_seen first c.new.ensures.objects c.new.ensures.targets c.new.ensures.text c.new.ensures.parts c.new.ensures.bytes c.new-2.ensures c.new-3.ensures.items) in
    let parents = slice_index c.in_ok-tree.tree.parents.items in
    let belows = slice_index c.in_ok-tree.tree.ends.items in
    let objects = c.visit_pairs.new.visitor.records.objects in
    let placed : c.set_places.new.objects ≡ placed_from 0 parents belows objects.items = c.set_places.ensures ∙ ap (placed_from 0 parents belows) c.deref_mut.ensures.value in
    let made : Records = record {
      objects = with_items objects c.set_places.new.objects;
      targets = c.put_targets.new.targets;
      text = c.visit_pairs.new.visitor.records.text;
      «data» = c.visit_pairs.new.visitor.records.«data»;
    } in
    records_whole c.args.objects.now (links_at c.args.links.now) (get c.args.codes.now) c.visit_pairs.new.visitor parents belows made seen.paths_are c.in_ok-tree.ensures.parents
    c.in_ok-tree.ensures.ends (with_items_is objects c.set_places.new.objects (ap length placed ∙ length-placed parents belows 0 objects.items ∙ sym objects.ok.0) ∙ placed)
    (subst (λ l. AddsTargets c.visit_pairs.new.visitor.paths (map (λ a. a.now) l) c.visit_pairs.new.visitor.records.targets.items c.put_targets.new.targets.items) c.deref.ensures.value
    c.in_ok-put_targets.ensures)
    refl refl refl (subst (λ m. AllSuit (links_at c.args.links.now) (get m) (objects_by_path c.args.objects.now) → AreFirst (objects_by_path c.args.objects.now) (links_at c.args.links.now) (get m) c.visit_pairs.new.visitor) c.in_ok-in_order.ensures seen.are suits)
