use Rattle.std.proofs.Common.{◌≡◌, ◌∙◌, ◌∷◌, [], ◌++◌, ◌+◌, Option, List, drop, ap, sym, append_assoc, arith}
use Rattle.std.proofs.lemmas.List.{drop_more}
use Rattle.acpi_name.specs.Names.{Segment, NameParts}
use Rattle.acpi_pass.specs.Links.{Links, answers}
use Rattle.acpi_pass.specs.Namespace.{namespace_of}
use Rattle.acpi_pass.proofs.links.answers_of.Goals as goal

pub loop-name-preserved : goal.loop-name-preserved
loop-name-preserved g c =
    let l = c.loop-name in
    let names = c.args.names.now in
    let find : List NameParts → Links = answers (namespace_of (g.S.Space.contents c.args.objects.now)) c.args.scope.now in
    let here : drop l.name-index names ≡ c.name-item.result ∷ drop (l.name-index + 1) names =
    drop_more names l.name-index c.name-item.result (grind arith) ∙ ap (λ y. y ∷ drop (l.name-index + 1) names) (sym c.name-item.is) in
    ap (λ (f : Links). f ++ find (drop (l.name-index + 1) names)) c.in_ok-push.ensures.items
    ∙ append_assoc l.found.items (c.in_ok-answer_of.field-0 ∷ []) (find (drop (l.name-index + 1) names))
    ∙ ap (λ (o : Option (List Segment)). l.found.items ++ o ∷ find (drop (l.name-index + 1) names)) c.in_ok-answer_of.ensures
    ∙ ap (λ (ns : List NameParts). l.found.items ++ find ns) (sym here)
    ∙ l.invariant
