-- What a body has declared, among what is certain.
use Rattle.std.proofs.Common.{◌≡◌, ◌∙◌, true, false, ◌&&◌, ◌||◌, List, [], ◌∷◌, map, refl, sym, ap, ap₂}
use Rattle.std.specs.List.{list_any}
use Rattle.std.specs.FinMap as finite
use Rattle.std.specs.Cmp.{eq_by_cmp_equiv}
use Rattle.std.specs.Ordering.{eq_by_cmp}
use Rattle.std.proofs.lemmas.List.Folds.{list_any-append}
use Rattle.acpi_name.specs.Paths.{path_cmp}
use Rattle.acpi_name.specs.steps.PathOrder.{path_cmp_total}
use Rattle.acpi_space.specs.Lookups.{is_same_path}
use Rattle.acpi_space.specs.Spaces.{is_defined}
use Rattle.acpi_body.specs.Arguments.{Locals}
use Rattle.acpi_conditions.specs.Entries.{Path}
use Rattle.acpi_conditions.specs.Known.{Certain, Known, is_certain, is_certain_scope}
use Rattle.acpi_survey.specs.Bodies.{object_at, known_behind}

among_keys : (p : Path) (ps : List Path) → list_any (λ c. is_same_path c.path p) (map object_at ps) ≡ list_any (eq_by_cmp path_cmp p) ps
among_keys p [] = refl
among_keys p (q ∷ qs) = ap₂ (λ a b. a || b) ((eq_by_cmp_equiv path_cmp_total).symm q p) (among_keys p qs)

no_scope : (p : Path) (ps : List Path) → list_any (λ c. is_same_path c.path p && c.is_scope) (map object_at ps) ≡ false
no_scope p [] = refl
no_scope p (q ∷ qs) = elim (is_same_path q p) as (λ b. ((b && false) || list_any (λ (c : Certain). is_same_path c.path p && c.is_scope) (map object_at qs)) ≡ false) [ true ↦ no_scope p qs | false ↦ no_scope p qs ]

pub certain_with_locals : (locals : Locals) (k : Known) (p : Path) → is_certain (known_behind locals k) p ≡ (is_defined locals p || is_certain k p)
certain_with_locals locals k p =
    list_any-append (λ c. is_same_path c.path p) (map object_at (finite.keys locals)) k.certain
    ∙ ap (λ b. b || is_certain k p) (among_keys p (finite.keys locals) ∙ sym (finite.contains_key-keys locals p))

pub certain_scope_behind : (locals : Locals) (k : Known) (p : Path) → is_certain_scope (known_behind locals k) p ≡ is_certain_scope k p
certain_scope_behind locals k p =
    list_any-append (λ c. is_same_path c.path p && c.is_scope) (map object_at (finite.keys locals)) k.certain ∙ ap (λ b. b || is_certain_scope k p) (no_scope p (finite.keys locals))
