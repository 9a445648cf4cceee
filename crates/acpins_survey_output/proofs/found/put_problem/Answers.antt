use Rattle.std.proofs.Common.{◌∙◌, ◌++◌, [], ◌∷◌, ap, codes}
use Rattle.acpi_text.proofs.Pieces.{next_said}
use Rattle.acpins_survey_output.specs.Found.{lost_text, scope_text, site_text}
use Rattle.acpins_survey_reasons.specs.Reasons.{problem_reason_text}
use Rattle.acpins_survey_output.proofs.found.put_problem.Goals as goal

pub returns : goal.returns
returns c =
    let old = c.args.text.now in
    let p = c.args.problem.now in
    let site = codes "! " ++ site_text p.site in
    let reason = site ++ problem_reason_text p.reason p.name in
    let lost = reason ++ lost_text p.lost in
    next_said old (lost ++ scope_text p.scope) (10 ∷ []) _ _
    (next_said old lost (scope_text p.scope) _ _
    (next_said old reason (lost_text p.lost) _ _
    (next_said old site (problem_reason_text p.reason p.name) _ _
    (next_said old (codes "! ") (site_text p.site) _ _ c.put.ensures c.put_site.ensures)
    (c.put_problem_reason.ensures ∙ ap (λ n. c.put_site.new.text ++ problem_reason_text p.reason n) c.as_ref.ensures.value))
    c.put_lost.ensures)
    c.put_scope.ensures)
    c.put-2.ensures
