-- What a wrong body leaves open is named here: its refusal then names it, and needs no second search.
use Rattle.std.proofs.Common.{◌++◌, ◌∷◌, [], ◌∙◌, ap, sym, subst, map, append_assoc}
use Rattle.std.proofs.lemmas.List.{map_push}
use Rattle.acpi_space.proofs.space.Space.visit_pairs.Goals as goal

pub loop-path-preserved : goal.loop-path-preserved
loop-path-preserved g c = λ first pairs shown.
    subst (λ l. g.T.Visitor.was_shown first l c.visit.new.self)
    (append_assoc pairs (map (λ p. (p.0, p.1.now)) c.loop-path.yielded) ((c.in-Some.path, c.in-Some.value.now) ∷ [])
    ∙ ap (λ l. pairs ++ l) (sym (map_push (λ p. (p.0, p.1.now)) c.loop-path.yielded (c.in-Some.path, c.in-Some.value))))
    (c.in_ok-visit.ensures first (pairs ++ map (λ p. (p.0, p.1.now)) c.loop-path.yielded) (c.loop-path.invariant first pairs shown))
