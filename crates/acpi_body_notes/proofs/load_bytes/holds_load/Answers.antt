use Rattle.std.proofs.Common.{◌≡◌, ◌∙◌, ℕ, zero, suc, ◌-◌, ◌<◌, false, List, [], ◌∷◌, ◌||◌, length, drop, take, take_all, add-one, sym, ap, arith}
use Rattle.std.proofs.lemmas.List.{length-drop}
use Rattle.acpi_body_notes.specs.steps.LoadBytes.{begins_load, holds_load}
use Rattle.acpi_body_notes.proofs.load_bytes.holds_load.Goals as goal

-- a place at which none begins
one_place : (bytes : List ℕ) (k : ℕ) → k < length bytes → begins_load (drop k bytes) ≡ false → holds_load (drop (suc k) bytes) ≡ holds_load (drop k bytes)
one_place [] k within none = absurd (omega arith)
one_place (b ∷ bytes) zero within none = ap (λ x. x || holds_load bytes) (sym none)
one_place (b ∷ bytes) (suc k) within none = one_place bytes k (omega arith) none

pub each-preserved : goal.each-preserved
each-preserved c =
    let bytes = c.args.bytes.now in
    let k = c.each.place in
    let rest : take (length bytes - k) (drop k bytes) ≡ drop k bytes = take_all (length bytes - k) (drop k bytes) (omega (arith, length-drop k bytes)) in
    let none : begins_load (drop k bytes) ≡ false = ap begins_load (sym rest) ∙ (sym c.begins_load.ensures ∙ c.if-begins_load.false) in
    ap (λ i. holds_load (drop i bytes)) (add-one k) ∙ one_place bytes k (omega arith) none ∙ c.each.invariant
