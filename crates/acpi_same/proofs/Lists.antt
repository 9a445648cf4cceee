-- Two lists, each mapped, and compared element by element; the paths of entries in two forms.
use Rattle.std.proofs.Common.{◌≡◌, Bool, ◌&&◌, List, [], ◌∷◌, map, refl, ap}
use Rattle.std.specs.Cmp.Lexicographic.{pointwise}

pub pointwise_maps : {X Y : Type 0} (f g : X → Y) (E : Y → Y → Bool) (xs ys : List X) → pointwise E (map f xs) (map g ys) ≡ pointwise (λ x y. E (f x) (g y)) xs ys
pointwise_maps f g E [] [] = refl
pointwise_maps f g E [] (y ∷ ys) = refl
pointwise_maps f g E (x ∷ xs) [] = refl
pointwise_maps f g E (x ∷ xs) (y ∷ ys) = ap (λ t. E (f x) (g y) && t) (pointwise_maps f g E xs ys)

pub map_twice : {X Y Z : Type 0} (f : Y → Z) (g : X → Y) (xs : List X) → map (λ x. f (g x)) xs ≡ map f (map g xs)
map_twice f g [] = refl
map_twice f g (x ∷ xs) = ap (λ l. f (g x) ∷ l) (map_twice f g xs)
