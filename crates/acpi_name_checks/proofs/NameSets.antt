-- What sets of names hold once one more is in them.
use Rattle.std.specs.Prelude.{◌||◌}
use Rattle.std.proofs.Common.{◌≡◌, ◌∙◌, Bool, true, false, List, [], ◌∷◌, ◌++◌, refl, sym, ap}
use Rattle.std.specs.List.{list_any}
use Rattle.acpi_name.specs.Names.{NameParts}
use Rattle.acpi_name.specs.NameEqual.{name_eq}
use Rattle.acpi_name_checks.specs.declared.name_set.NameSet.{NameSet}
use Rattle.acpi_name_checks.specs.steps.NameSets.{has_name, HasNamesOf}

swap : (a b c : Bool) → a || (b || c) ≡ b || (a || c)
swap true true c = refl
swap true false c = refl
swap false true c = refl
swap false false c = refl

any_more : {X : Type 0} (p : X → Bool) (xs : List X) (x : X) → list_any p (xs ++ x ∷ []) ≡ p x || list_any p xs
any_more p [] x = refl
any_more p (y ∷ ys) x = ap (λ b. p y || b) (any_more p ys x) ∙ swap (p y) (p x) (list_any p ys)

pub has_one_more : {X : Type 0} (name : X → NameParts) (xs : List X) (x : X) (old new : NameSet) → HasNamesOf name old xs
    → ((n : NameParts) → has_name new n ≡ name_eq (name x) n || has_name old n) → HasNamesOf name new (xs ++ x ∷ [])
has_one_more name xs x old new h more n = more n ∙ ap (λ b. name_eq (name x) n || b) (h n) ∙ sym (any_more (λ y. name_eq (name y) n) xs x)
