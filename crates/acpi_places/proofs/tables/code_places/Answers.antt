use Rattle.std.proofs.Common.{◌∷◌, ◌+◌, ◌<◌, length, refl, sym, ap, subst, ◌∙◌, arith}
use Rattle.std.specs.FinMap.{get}
use Rattle.std.proofs.lemmas.Option.{get_or_from_slice_get}
use Rattle.acpi_space.specs.Spaces.{PathMap}
use Rattle.acpi_places.specs.declared.place.CodePlace.{CodePlace}
use Rattle.acpi_places.specs.steps.Adding.{AreFirstPlaces}
use Rattle.acpi_places.proofs.Added.{get_none, none_yet, notes_enough, behind_first, next_table, all_places}
use Rattle.acpi_places.proofs.tables.code_places.Goals as goal

pub notes_at-requires : goal.notes_at-requires
notes_at-requires c = omega (arith, notes_enough c.args.depth (c.args.dsdt.now ∷ c.args.ssdts.now) c.args.notes.now c.requires, c.loop-i-test.true)

pub loop-i-init : goal.loop-i-init
loop-i-init c = λ h.
    let tables = c.args.dsdt.now ∷ c.args.ssdts.now in
    let old = get c.new-places.result in
    let begun : AreFirstPlaces tables h.placements 0 old =
    subst (AreFirstPlaces tables h.placements 0) (sym (ap (λ (m : PathMap CodePlace). get m) c.new-places.ensures ∙ get_none)) (none_yet c.args.depth tables c.args.notes.now h) in
    let n = c.index-notes-0.result in
    let t = next_table c.args.depth tables c.args.notes.now h 0 old c.args.dsdt.now n (omega arith) refl c.index-notes-0.is begun in
    t.then (get c.add_table.new.places) (c.in_ok-add_table.ensures t.items t.table)

pub add_table-requires-in-loop-i : goal.add_table-requires-in-loop-i
add_table-requires-in-loop-i c =
    let tables = c.args.dsdt.now ∷ c.args.ssdts.now in
    let i = c.loop-i.i in
    let b = c.index-ssdts-i.result in
    let below : i + 1 < length tables = omega (arith, c.loop-i-test.true) in
    let there = behind_first c.args.dsdt.now b c.args.ssdts.now i c.loop-i-test.true c.index-ssdts-i.is in
    let t = next_table c.args.depth tables c.args.notes.now c.requires (i + 1) (get c.loop-i.places) b c.notes_at.result.now below there (sym (get_or_from_slice_get c.args.notes.now (i + 1) c.notes_at.result.now c.notes_at.result.now c.notes_at.ensures)) (c.loop-i.invariant c.requires) in
    (t.items, t.table)

pub loop-i-preserved : goal.loop-i-preserved
loop-i-preserved c = λ h.
    let tables = c.args.dsdt.now ∷ c.args.ssdts.now in
    let i = c.loop-i.i in
    let b = c.index-ssdts-i.result in
    let n = c.notes_at.result.now in
    let below : i + 1 < length tables = omega (arith, c.loop-i-test.true) in
    let there = behind_first c.args.dsdt.now b c.args.ssdts.now i c.loop-i-test.true c.index-ssdts-i.is in
    let t = next_table c.args.depth tables c.args.notes.now h (i + 1) (get c.loop-i.places) b n below there (sym (get_or_from_slice_get c.args.notes.now (i + 1) c.notes_at.result.now c.notes_at.result.now c.notes_at.ensures)) (c.loop-i.invariant h) in
    t.then (get c.add_table-in-loop-i.new.places) (c.in_ok-add_table-2.ensures t.items t.table)

pub returns : goal.returns
returns c =
    let tables = c.args.dsdt.now ∷ c.args.ssdts.now in
    all_places c.args.depth tables c.args.notes.now c.requires (c.loop-i.i + 1) (get c.loop-i.places) (omega (arith, c.loop-i-test.false)) (c.loop-i.invariant c.requires)
