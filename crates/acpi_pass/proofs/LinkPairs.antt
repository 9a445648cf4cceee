-- The pairs of a map of links, as they are lent.
use Rattle.std.proofs.Common.{◌≡◌, List, [], ◌∷◌, ◌++◌, map, Bor, append_assoc, append-nil, refl, sym, ap, subst, ◌∙◌}
use Rattle.std.proofs.lemmas.List.{map-append}
use Rattle.acpi_name.specs.Names.{Segment}
use Rattle.acpi_pass.specs.Links.{Links}
use Rattle.acpi_pass.specs.declared.link_map.SharedLinks.{SharedLinks}
use Rattle.acpi_pass.specs.steps.Showing.{Shared, ShowsOn}

abbrev pub lent : List (List Segment × Bor Links) → List (List Segment × Links)
lent es = map (λ e. (e.0, e.1.now)) es

abbrev pub lent_shared : List (List Segment × Bor Shared) → List (List Segment × Links)
lent_shared es = map (λ e. (e.0, e.1.now.value.items)) es

-- the next pair goes from those that wait to those that are there
pub pair_moves : (before after : List (List Segment × Bor Links)) (p : List Segment) (s : Bor Links) (a : Bor Shared) (rest left : List (List Segment × Bor Shared))
    → after ≡ before ++ (p, s) ∷ [] → s.now ≡ a.now.value.items → rest ≡ (p, a) ∷ left → lent after ++ lent_shared left ≡ lent before ++ lent_shared rest
pair_moves before after p s a rest left more same front =
    ap (λ (es : List (List Segment × Bor Links)). lent es ++ lent_shared left) more
    ∙ ap (λ (es : List (List Segment × Links)). es ++ lent_shared left) (map-append (λ e. (e.0, e.1.now)) before ((p, s) ∷ []))
    ∙ append_assoc (lent before) ((p, s.now) ∷ []) (lent_shared left)
    ∙ ap (λ (l : Links). lent before ++ (p, l) ∷ lent_shared left) same
    ∙ ap (λ (es : List (List Segment × Bor Shared)). lent before ++ lent_shared es) (sym front)

-- pairs, seen without what keeps them
abbrev pub seen : List (List Segment × Shared) → List (List Segment × Links)
seen es = map (λ e. (e.0, e.1.value.items)) es

pub seen_of_lent : (es : List (List Segment × Bor Shared)) → lent_shared es ≡ seen (map (λ e. (e.0, e.1.now)) es)
seen_of_lent [] = refl
seen_of_lent (e ∷ es) = ap (λ (l : List (List Segment × Links)). (e.0, e.1.now.value.items) ∷ l) (seen_of_lent es)

-- ---- shown on

pub begins : {T : Type 0} (was_shown : T → List (List Segment × Links) → T → Type 0) (s : SharedLinks T) → ShowsOn was_shown s [] s
begins was_shown s = record { same = refl; shown = λ start before h. subst (λ (es : List (List Segment × Links)). was_shown start es s.visitor.now) (sym (append-nil before)) h }
