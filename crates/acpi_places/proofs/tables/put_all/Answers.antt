use Rattle.std.proofs.Common.{◌≡◌, ℕ, drop, length, map, sym, subst, rules}
use Rattle.std.proofs.lemmas.List.{length_push}
use Rattle.std.proofs.lemmas.Slice.Zip.{zip_turn, zip_end}
use Rattle.std.specs.FinMap.{get}
use Rattle.std.specs.Iterator.Adapters.{zip_first, zip_second}
use Rattle.std.specs.Slice.Iter.{iter_rest}
use Rattle.acpi_space.specs.Lookups.{union}
use Rattle.acpi_declare.specs.Notes.{method_of}
use Rattle.acpi_places.specs.Places.{by_path}
use Rattle.acpi_places.proofs.Added.{next_put, all_put}
use Rattle.acpi_places.proofs.tables.put_all.Goals as goal

pub loop-method-preserved : goal.loop-method-preserved
loop-method-preserved c =
    let ms = c.args.methods.now in
    let cs = c.args.found.now in
    let s = c.into_iter-method-iterator.result in
    let first : iter_rest (zip_first s) ≡ ms = search rules in
    let second : iter_rest (zip_second s) ≡ cs = search rules in
    let xs = c.loop-method.yielded in
    let m = c.in-Some.method.now in
    let place = c.in-Some.place.now in
    let all = union (get c.args.places.now) (by_path (map method_of ms) cs) in
    let t = zip_turn ms cs xs s c.loop-method.method-iterator c.next.new.self c.next.result first second c.loop-method.yielded_by (c.in-Some.method, c.in-Some.place) c.in-Some.is c.next.ensures.steps in
    subst (λ (n : ℕ). union (get c.put.new.places) (by_path (drop n (map method_of ms)) (drop n cs)) ≡ all) (sym (length_push xs (c.in-Some.method, c.in-Some.place)))
    (next_put ms cs (length xs) m c.in_ok-copy.field-0 place all (get c.loop-method.places) (get c.put.new.places) t.0 t.1 (t.2 m) (t.3 place) c.in_ok-copy.ensures c.in_ok-put.ensures
    c.loop-method.invariant)

pub returns : goal.returns
returns c =
    let ms = c.args.methods.now in
    let cs = c.args.found.now in
    let s = c.into_iter-method-iterator.result in
    let first : iter_rest (zip_first s) ≡ ms = search rules in
    let second : iter_rest (zip_second s) ≡ cs = search rules in
    let xs = c.loop-method.yielded in
    let t = zip_end ms cs xs s c.loop-method.method-iterator c.next.new.self c.next.result first second c.loop-method.yielded_by c.in-None.is c.next.ensures.steps in
    all_put ms cs (length xs) (union (get c.args.places.now) (by_path (map method_of ms) cs)) (get c.loop-method.places) t c.loop-method.invariant
