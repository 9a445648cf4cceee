use Rattle.std.proofs.Common.{◌++◌, ◌∷◌, [], ap, refl, ◌∙◌}
use Rattle.std.proofs.lemmas.Result.{MatchResult-weaker}
use Rattle.acpins_records.specs.declared.building.Entry.{Entry}
use Rattle.acpins_records.proofs.Placed.{seen_more}
use Rattle.acpins_records.proofs.building.RecordCollectorVisitorObject.visit.Goals as goal

pub returns : goal.returns
returns c first pairs so =
    let e : Entry = record { path = c.args.path; object = c.args.object; links = c.links_of-links.result; target = c.len.result; code = c.code_of.result } in
    MatchResult-weaker c.put-2.result c.put-2.ensures
    (λ _ puts. seen_more first c.args.self.now _ pairs e so refl c.code_of.ensures.stays c.links_of-links.ensures c.code_of.ensures.code (c.len.ensures ∙ c.args.self.now.wanted.ok.0) c.in_ok-put.ensures
    c.in_ok-put_wanted.ensures (puts ∙ ap (λ p. c.args.self.now.paths ++ p ∷ []) c.segs.ensures.all))
    (λ _ u. u)
