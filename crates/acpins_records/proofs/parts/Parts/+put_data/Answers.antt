use Rattle.std.proofs.Common.{refl}
use Rattle.acpins_records.proofs.PartLists.{first_more, place_within, package_adds}
use Rattle.acpins_records.proofs.parts.Parts.+put_data.Goals as goal

pub put_package-loop-elem-preserved : goal.put_package-loop-elem-preserved
put_package-loop-elem-preserved t c =
    first_more c.args.elems.now c.loop-elem.elem-index c.elem-item.result _ c.loop-elem.self c.put_elem.new.self c.loop-elem-test.true c.elem-item.is c.loop-elem.invariant c.in_ok-put_elem.ensures

pub put_package-index_mut-requires : goal.put_package-index_mut-requires
put_package-index_mut-requires t c =
    place_within c.args.kind c.args.count c.args.elems.now c.loop-elem.elem-index c.args.self.now c.put_part.new.self c.loop-elem.self c.loop-elem-test.false
    c.in_ok-put_part.ensures.parts c.in_ok-put_part.ensures.bytes c.loop-elem.invariant c.len-place.result c.len-place.ensures

pub put_package-returns : goal.put_package-returns
put_package-returns t c =
    package_adds c.args.kind c.args.count c.args.elems.now c.loop-elem.elem-index c.args.self.now c.put_part.new.self c.loop-elem.self c.loop-elem-test.false
    c.in_ok-put_part.ensures.parts c.in_ok-put_part.ensures.bytes c.loop-elem.invariant c.len-place.result c.len.result c.index_mut.result.now _ c.len-place.ensures c.len.ensures
    c.index_mut.ensures.value refl refl
