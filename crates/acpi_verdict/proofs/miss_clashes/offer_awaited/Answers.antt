use Rattle.std.proofs.Common.{◌≡◌, ◌∷◌, [], inl, Some, None, true, false, true≢false, refl, sym, ◌∙◌, rules}
use Rattle.std.specs.FinMap.{get}
use Rattle.std.proofs.lemmas.Result.{on_ok_weaker}
use Rattle.acpi_verdict.specs.steps.Defining.{takes}
use Rattle.acpi_verdict.proofs.UnmetPaths.{IsOther, only_pair, only_count, first_free, first_own, first_without, first_found}
use Rattle.acpi_verdict.proofs.miss_clashes.offer_awaited.Goals as goal

pub returns-in-Some : goal.returns-in-Some
returns-in-Some c =
    let p = c.args.path.now in
    let d = c.in-Some.definer.now in
    let there : get c.args.definers.now p ≡ Some d = search rules in
    let fails : takes d c.args.count ≡ false = search rules in
    on_ok_weaker c.offer.result
    (first_found c.args.definers.now c.args.searcher p (IsOther ((p, c.args.count) ∷ [])) (only_pair p c.args.count) d there c.args.clash.now c.offer.new.clash
    c.if-definer-searcher.true (c.args.count, inl refl, fails)) c.offer.ensures

pub returns-in_default : goal.returns-in_default
returns-in_default c =
    let p = c.args.path.now in
    let d = c.in-Some.definer.now in
    let there : get c.args.definers.now p ≡ Some d = search rules in
    let takes_it : takes d c.args.count ≡ true = search rules in
    first_without c.args.definers.now c.args.searcher p (IsOther ((p, c.args.count) ∷ [])) (only_pair p c.args.count) d there c.args.clash.now
    (λ h. true≢false (sym takes_it ∙ only_count p c.args.count d h))

pub returns-in_default-2 : goal.returns-in_default-2
returns-in_default-2 c =
    let p = c.args.path.now in
    let d = c.in-Some.definer.now in
    let there : get c.args.definers.now p ≡ Some d = search rules in
    first_own c.args.definers.now c.args.searcher p (IsOther ((p, c.args.count) ∷ [])) (only_pair p c.args.count) d there c.args.clash.now c.if-definer-searcher.false

pub returns-in_default-3 : goal.returns-in_default-3
returns-in_default-3 c =
    let p = c.args.path.now in
    let none : get c.args.definers.now p ≡ None = search rules in
    first_free c.args.definers.now c.args.searcher p (IsOther ((p, c.args.count) ∷ [])) (only_pair p c.args.count) c.args.clash.now none
