use Rattle.std.proofs.Common.{◌≡◌, List, [], ◌∷◌, ◌++◌, map, ap, ◌∙◌}
use Rattle.std.proofs.lemmas.List.{map_push}
use Rattle.acpi_conditions.specs.Entries.{Refusal}
use Rattle.acpi_conditions.specs.Walk.{Walk}
use Rattle.acpi_conditions.specs.EntryForms.{refusal_of, why_of}
use Rattle.acpi_conditions.proofs.WalkSteps.{refused_is}
use Rattle.acpi_conditions.proofs.walk.Walk.refuse.Goals as goal

pub returns : goal.returns
returns c =
    let r : Refusal = record { place = c.args.place; why = why_of c.args.reason } in
    let rs : List Refusal = map refusal_of c.push.new.self.items in
    let is : rs ≡ c.args.self.now.refused ++ r ∷ [] =
    ap (map refusal_of) c.in_ok-push.ensures.items ∙ map_push refusal_of c.self.inside.refused.items (record { place = c.args.place; reason = c.args.reason })
    ∙ ap (λ (w : Walk). w.refused ++ r ∷ []) (c.self.view_is ∙ c.pass.ensures) in
    ap (λ (w : Walk). record w { refused = rs }) (c.self.view_is ∙ c.pass.ensures) ∙ refused_is c.args.place (why_of c.args.reason) c.args.self.now rs is
