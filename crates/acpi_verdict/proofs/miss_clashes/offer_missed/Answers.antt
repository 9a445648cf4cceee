use Rattle.std.proofs.Common.{◌≡◌, ◌∷◌, [], inl, Some, None, refl, rules}
use Rattle.std.specs.FinMap.{get}
use Rattle.std.proofs.lemmas.Result.{on_ok_weaker}
use Rattle.acpi_space.specs.Laws.{Among}
use Rattle.acpi_verdict.proofs.UnmetPaths.{only_path, first_free, first_own, first_found}
use Rattle.acpi_verdict.proofs.miss_clashes.offer_missed.Goals as goal

pub returns-in-Some : goal.returns-in-Some
returns-in-Some c =
    let p = c.args.path.now in
    let there : get c.args.definers.now p ≡ Some c.in-Some.definer.now = search rules in
    on_ok_weaker c.offer.result
    (first_found c.args.definers.now c.args.searcher p (λ q x. Among (p ∷ []) q) (λ q x m. only_path p q m) c.in-Some.definer.now there c.args.clash.now c.offer.new.clash
    c.if-definer-searcher.true (inl refl)) c.offer.ensures

pub returns-in_default : goal.returns-in_default
returns-in_default c =
    let p = c.args.path.now in
    let there : get c.args.definers.now p ≡ Some c.in-Some.definer.now = search rules in
    first_own c.args.definers.now c.args.searcher p (λ q x. Among (p ∷ []) q) (λ q x m. only_path p q m) c.in-Some.definer.now there c.args.clash.now c.if-definer-searcher.false

pub returns-in_default-2 : goal.returns-in_default-2
returns-in_default-2 c =
    let p = c.args.path.now in
    let none : get c.args.definers.now p ≡ None = search rules in
    first_free c.args.definers.now c.args.searcher p (λ q x. Among (p ∷ []) q) (λ q x m. only_path p q m) c.args.clash.now none
