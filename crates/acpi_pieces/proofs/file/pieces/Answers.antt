use Rattle.std.proofs.Common.{◌≡◌, ◌≤◌, ◌-◌, ℕ, List, [], ◌∷◌, ◌++◌, length, take, drop, sym, ap, subst, ◌∙◌, append-nil, append_assoc, arith}
use Rattle.std.proofs.lemmas.List.{length-take-le, length-drop, nil_from_length}
use Rattle.acpi_pieces.specs.Pieces.{IsFront, ArePieces}
use Rattle.acpi_pieces.proofs.file.pieces.Goals as goal

pub each-init : goal.each-init
each-init c = λ more are.
    let here : ArePieces more c.args.file.now = subst (ArePieces more) c.in_ok-rest.ensures.cases are in
    subst (λ (l : List (List ℕ)). ArePieces (l ++ more) c.args.file.now) (sym c.new-pieces.ensures.items) here

pub each-smaller : goal.each-smaller
each-smaller c =
    let gone : length c.split_to.new.self ≡ length c.each.rest - c.front_length-length.result =
    ap length c.in_ok-split_to.ensures.rest ∙ length-drop _ c.each.rest in
    let le : c.front_length-length.result ≤ length c.each.rest = subst (λ xs. c.front_length-length.result ≤ length xs) c.deref.ensures c.front_length-length.ensures.within in
    omega (arith, gone, le, c.front_length-length.ensures.some)

pub each-preserved : goal.each-preserved
each-preserved c = λ more are.
    let n = c.front_length-length.result in
    let piece = take n c.each.rest in
    let le : n ≤ length c.each.rest = subst (λ xs. n ≤ length xs) c.deref.ensures c.front_length-length.ensures.within in
    let long : length piece ≡ n = length-take-le n c.each.rest le in
    let front : IsFront piece c.each.rest = subst (λ xs. IsFront (take n xs) xs) c.deref.ensures c.front_length-length.ensures.front in
    let behind : ArePieces more (drop (length piece) c.each.rest) =
    subst (ArePieces more) (c.in_ok-split_to.ensures.rest ∙ ap (λ k. drop k c.each.rest) (sym long)) are in
    let now : c.push.new.self.items ++ more ≡ c.each.pieces.items ++ piece ∷ more =
    ap (λ (l : List (List ℕ)). l ++ more) (c.in_ok-push.ensures.items ∙ ap (λ (p : List ℕ). c.each.pieces.items ++ p ∷ []) c.in_ok-split_to.ensures.front)
    ∙ append_assoc c.each.pieces.items (piece ∷ []) more in
    subst (λ l. ArePieces l c.args.file.now) (sym now) (c.each.invariant (piece ∷ more) (front, behind))

pub returns : goal.returns
returns c =
    let none : c.each.rest ≡ [] = nil_from_length _ (grind arith) in
    subst (λ (l : List (List ℕ)). ArePieces l c.args.file.now) (append-nil c.each.pieces.items) (c.each.invariant [] none)
