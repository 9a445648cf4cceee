use Rattle.std.proofs.Common.{◌≡◌, ◌++◌, map, take}
use Rattle.acpins_records.proofs.building.put_wanted.Given as goal

abbrev pub invariant-loop-answer : goal.invariant-loop-answer
invariant-loop-answer l = map (λ a. a.now) l.wanted.items ≡ map (λ a. a.now) l.initial.wanted.items ++ take l.answer-index l.links
