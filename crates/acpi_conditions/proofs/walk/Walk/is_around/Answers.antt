use Rattle.std.proofs.Common.{◌≡◌, ◌∙◌, ◌||◌, false, List, [], ◌∷◌, map, reverse, refl, sym, ap, subst}
use Rattle.std.specs.List.{list_any}
use Rattle.acpi_space.specs.Lookups.{is_same_path}
use Rattle.acpi_conditions.specs.Entries.{Path, Turn}
use Rattle.acpi_conditions.specs.KnownLists.{KnownLists}
use Rattle.acpi_conditions.specs.Here.{scopes_around}
use Rattle.acpi_conditions.specs.Walk.{Walk}
use Rattle.acpi_conditions.specs.steps.Walks.{package_of, walk_of}
use Rattle.acpi_conditions.specs.declared.packages.Package.{Package as PackageForm}
use Rattle.acpi_conditions.proofs.walk.Walk.is_around.Goals as goal

scopes : (ways : List (List Turn)) (k : KnownLists) (p : Path) (ps : List PackageForm)
    → list_any (λ x. is_same_path x.scope p) ps ≡ list_any (λ q. is_same_path q p) (map (λ x. x.around.scope) (map (package_of ways k) ps))
scopes ways k p [] = refl
scopes ways k p (x ∷ xs) = ap (λ b. is_same_path x.scope p || b) (scopes ways k p xs)

pub returns-else-is_path : goal.returns-else-is_path
returns-else-is_path c =
    let isnt : c.is_path.result ≡ false = cc in
    let here : is_same_path c.self.inside.scope c.args.path.now ≡ false = sym c.is_path.ensures ∙ isnt in
    subst (λ (w : Walk). c.is_scope_of.result ≡ list_any (λ q. is_same_path q c.args.path.now) (scopes_around w)) c.self.view_is
    (c.is_scope_of.ensures ∙ ap (λ ps. list_any (λ (x : PackageForm). is_same_path x.scope c.args.path.now) (reverse ps)) c.deref.ensures.value ∙ scopes c.self.inside.ways c.self.inside.paths c.args.path.now (reverse c.self.inside.packages.items)
    ∙ ap (λ b. b || list_any (λ q. is_same_path q c.args.path.now) (map (λ x. x.around.scope) (walk_of c.self.inside).packages)) (sym here))
