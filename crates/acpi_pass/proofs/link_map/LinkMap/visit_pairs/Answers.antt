use Rattle.std.proofs.Common.{◌++◌, rules, sym, subst}
use Rattle.std.proofs.lemmas.Result.{MatchResult-weaker}
use Rattle.acpi_pass.specs.Links.{link_pairs}
use Rattle.acpi_pass.proofs.LinkPairs.{begins}
use Rattle.acpi_pass.proofs.link_map.LinkMap.visit_pairs.Goals as goal

pub returns : goal.returns
returns g c first pairs h =
    MatchResult-weaker c.visit_pairs.result (c.visit_pairs.ensures _ _ (begins g.T.LinkVisitor.was_shown _))
    (λ _ on. subst (g.T.LinkVisitor.was_shown first (pairs ++ link_pairs c.args.self.now)) (search (rules, sym on.same)) (on.shown first pairs h)) (λ _ u. u)
