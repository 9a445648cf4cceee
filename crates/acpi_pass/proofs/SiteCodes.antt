-- The code of the methods that sites declare.
use Rattle.std.proofs.Common.{◌≡◌, ℕ, ◌+◌, Bool, true, false, cond, ◌==◌, List, [], ◌∷◌, ◌++◌, map, Option, Some, None, refl, sym, ap, ◌∙◌, append_assoc}
use Rattle.acpi_name.specs.Names.{NameParts}
use Rattle.acpi_tree.specs.declared.object.FieldForm.{FieldForm}
use Rattle.acpi_tree.specs.Tree.{FieldTree, unit, ExternalParts}
use Rattle.acpi_tree.specs.Objects.{ObjectTree}
use Rattle.acpi_tree.specs.Offsets.{element_bits}
use Rattle.acpi_pass.specs.Sites.{Effect, declares, opens, expects, Step, step, scope_effect, unit_steps, external_step, external_steps, Site, site_in}

abbrev pub effect_codes : Effect → List (List ℕ)
effect_codes (declares o links (Some code)) = code ∷ []
effect_codes (declares o links None) = []
effect_codes opens = []
effect_codes (expects count) = []

pub scope_codes : (o : Option ObjectTree) → effect_codes (scope_effect o) ≡ []
scope_codes None = refl
scope_codes (Some o) = refl

abbrev pub step_codes : List Step → List (List ℕ)
step_codes [] = []
step_codes (x ∷ xs) = effect_codes x.effect ++ step_codes xs

abbrev pub site_codes : List Site → List (List ℕ)
site_codes [] = []
site_codes (x ∷ xs) = effect_codes x.step.effect ++ site_codes xs

pub sites_appended : (xs ys : List Site) → site_codes (xs ++ ys) ≡ site_codes xs ++ site_codes ys
sites_appended [] ys = refl
sites_appended (x ∷ xs) ys = ap (λ (cs : List (List ℕ)). effect_codes x.step.effect ++ cs) (sites_appended xs ys)
    ∙ sym (append_assoc (effect_codes x.step.effect) (site_codes xs) (site_codes ys))

pub units_codes : (form : FieldForm) (flags : ℕ) (links : List NameParts) (offset : ℕ) (es : List FieldTree) → step_codes (unit_steps form flags links offset es) ≡ []
units_codes form flags links offset [] = refl
units_codes form flags links offset (unit s bits ∷ es) = units_codes form flags links (offset + bits) es
units_codes form flags links offset (e ∷ es) = units_codes form flags links (offset + element_bits e) es

pub external_codes : (x : ExternalParts) (later : List Step) → step_codes (external_step x ++ later) ≡ step_codes later
external_codes x later = by (x.kind == 8)
  where
    by : (b : Bool) → step_codes (cond b (step x.name (expects x.args) ∷ []) [] ++ later) ≡ step_codes later
    by true = refl
    by false = refl

pub externals_codes : (xs : List ExternalParts) → step_codes (external_steps xs) ≡ []
externals_codes [] = refl
externals_codes (x ∷ xs) = external_codes x (external_steps xs) ∙ externals_codes xs

pub in_sites : (inside : Option ℕ) (xs : List Step) → site_codes (map (site_in inside) xs) ≡ step_codes xs
in_sites inside [] = refl
in_sites inside (x ∷ xs) = ap (λ (cs : List (List ℕ)). effect_codes x.effect ++ cs) (in_sites inside xs)
