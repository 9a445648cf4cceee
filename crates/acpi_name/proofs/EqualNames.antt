-- `==` on names is equality.
use Rattle.std.proofs.Common.{◌≡◌, Bool, true, ◌&&◌, eqb, List, [], ◌∷◌, refl, ap, ap₂}
use Rattle.std.specs.Bool.{beq, Decides}
use Rattle.std.specs.Cmp.{booleans_Decides}
use Rattle.std.specs.Cmp.Lexicographic.{pointwise}
use Rattle.std.proofs.lemmas.Bool.Decides.{Decides-eqb}
use Rattle.acpi_name.specs.Names.{Segment, NameParts}
use Rattle.acpi_name.specs.NameEqual.{name_eq}
use Rattle.acpi_name.proofs.NameAgain.{and_true}

lists_Decide : {X : Type 0} (E : X → X → Bool) → ((x y : X) → Decides (E x y) (x ≡ y)) → (xs ys : List X) → Decides (pointwise E xs ys) (xs ≡ ys)
lists_Decide E each [] [] = (λ h. refl, λ h. refl)
lists_Decide E each [] (y ∷ ys) = (λ h. absurd cc, λ h. absurd cc)
lists_Decide E each (x ∷ xs) [] = (λ h. absurd cc, λ h. absurd cc)
lists_Decide E each (x ∷ xs) (y ∷ ys) =
    let more = lists_Decide E each xs ys in (
      λ h. let p = and_true (E x y) (pointwise E xs ys) h in ap₂ (λ a b. a ∷ b) ((each x y).0 p.0) (more.0 p.1),
      λ h. let head : x ≡ y = cc in let tail : xs ≡ ys = cc in rw ((each x y).1 head, more.1 tail) refl,
    )

segments_Decide : (ss ts : List Segment) → Decides (pointwise (pointwise eqb) ss ts) (ss ≡ ts)
segments_Decide = lists_Decide (pointwise eqb) (lists_Decide eqb Decides-eqb)

pub name_eq_Decides : (m n : NameParts) → Decides (name_eq m n) (m ≡ n)
name_eq_Decides m n = (forth, back)
  where
    forth : name_eq m n ≡ true → m ≡ n
    forth h =
        let p = and_true (beq m.rooted n.rooted && eqb m.parents n.parents) (pointwise (pointwise eqb) m.segments n.segments) h in
        let q = and_true (beq m.rooted n.rooted) (eqb m.parents n.parents) p.0 in
        let a = (booleans_Decides m.rooted n.rooted).0 q.0 in
        let b = (Decides-eqb m.parents n.parents).0 q.1 in
        let c = (segments_Decide m.segments n.segments).0 p.1 in
        λ k. record { rooted = a k; parents = b k; segments = c k }

    back : m ≡ n → name_eq m n ≡ true
    back h =
        let a = (booleans_Decides m.rooted n.rooted).1 (ap (λ (x : NameParts). x.rooted) h) in
        let b = (Decides-eqb m.parents n.parents).1 (ap (λ (x : NameParts). x.parents) h) in
        let c = (segments_Decide m.segments n.segments).1 (ap (λ (x : NameParts). x.segments) h) in
        rw (a, b, c) refl
