-- What a term declares, by its parts.
use Rattle.std.proofs.Common.{◌≡◌, ◌≢◌, ◌∷◌, [], length, List, Option, Some, None, refl, ap, sym}
use Rattle.acpi_name.specs.Names.{NameParts}
use Rattle.acpi_name.specs.Paths.{place_of}
use Rattle.acpi_tree.specs.declared.term.Term.{Term}
use Rattle.acpi_tree.specs.TermView.{terms_tree}
use Rattle.acpi_tree.specs.Terms.{TermTree, declare, declare_units}
use Rattle.acpi_conditions.specs.Entries.{Path}
use Rattle.acpi_locals.specs.Declaring.{unless_followed, declared_at, declared_units, declared_by}
use Rattle.acpi_locals.specs.steps.Declarations.{declared_name, named_object, field_list}

pub declared_with : (s : Path) (t : TermTree) (n : NameParts) → Some n ≡ declared_name t → declared_at (place_of s n) (named_object t) ≡ declared_by s t
declared_with s (declare form before m behind) n is = let same : n ≡ m = cc in ap (λ (k : NameParts). declared_at (place_of s k) (named_object (declare form before m behind))) same
declared_with s _ n is = absurd cc

pub declared_without : (s : Path) (t : TermTree) → None ≡ declared_name t → declared_units s t 0 (field_list t) ≡ declared_by s t
declared_without s (declare form before m behind) is = absurd cc
declared_without s (declare_units form ns vs es) is = refl
declared_without s _ is = refl

pub followed_by_none : (vs : List Term) (n : NameParts) → length vs ≡ 0 → unless_followed (terms_tree vs) n ≡ Some n
followed_by_none [] n none = refl
followed_by_none (v ∷ vs) n none = absurd cc

pub followed_by_some : (vs : List Term) (n : NameParts) → length vs ≢ 0 → unless_followed (terms_tree vs) n ≡ None
followed_by_some [] n some = absurd (some refl)
followed_by_some (v ∷ vs) n some = refl
