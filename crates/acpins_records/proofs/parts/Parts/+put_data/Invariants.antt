use Rattle.acpins_records.proofs.PartLists.{AddsFirst}
use Rattle.acpins_records.proofs.parts.Parts.+put_data.Given as goal

abbrev pub invariant-put_package-loop-elem : goal.invariant-put_package-loop-elem
invariant-put_package-loop-elem l = AddsFirst l.elems l.elem-index l.initial.self l.self
