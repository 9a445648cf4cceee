use Rattle.std.proofs.Common.{◌++◌, [], ◌∷◌, length, Some, sym, ◌∙◌, ap}
use Rattle.std.specs.Option.{option_map}
use Rattle.acpi_space.specs.Search.{beginnings}
use Rattle.acpi_space.specs.Spaces.{is_defined}
use Rattle.acpi_space.proofs.Beginnings.{find_map, found_within, found_there, not_found}
use Rattle.acpi_space.proofs.lookup.search_plain.Goals as goal

pub beginning-requires : goal.beginning-requires
beginning-requires g c = found_within (λ q. is_defined (g.S.Space.contents c.args.space.now) (q ++ c.args.seg ∷ [])) _ _ _ c.in_ok-nearest.ensures c.in-Some.is

pub returns-in_ok-push-in-Some : goal.returns-in_ok-push-in-Some
returns-in_ok-push-in-Some g c =
    ap Some (c.in_ok-push-in-Some.ensures.ok ∙ ap (λ p. p ++ c.args.seg ∷ []) c.in_ok-path-in-Some.ensures)
    ∙ sym (find_map (is_defined (g.S.Space.contents c.args.space.now)) (λ q. q ++ c.args.seg ∷ []) (beginnings c.args.scope.now)
    ∙ ap (option_map (λ q. q ++ c.args.seg ∷ [])) (found_there (λ q. is_defined (g.S.Space.contents c.args.space.now) (q ++ c.args.seg ∷ [])) _ _ _ c.in_ok-nearest.ensures c.in-Some.is))

pub returns-in-None : goal.returns-in-None
returns-in-None g c =
    sym (find_map (is_defined (g.S.Space.contents c.args.space.now)) (λ q. q ++ c.args.seg ∷ []) (beginnings c.args.scope.now)
    ∙ ap (option_map (λ q. q ++ c.args.seg ∷ [])) (not_found _ length _ c.in_ok-nearest.ensures c.in-None.is))
