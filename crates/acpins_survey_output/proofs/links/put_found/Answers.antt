use Rattle.std.proofs.Common.{ℕ, List, codes}
use Rattle.acpi_text.specs.Constants.{separated}
use Rattle.acpi_text.proofs.Pieces.{next_said}
use Rattle.acpi_entries.specs.declared.links.Link.{Link}
use Rattle.acpi_entries.specs.ConditionViews.{link_view}
use Rattle.acpins_survey_output.specs.Links.{link_text}
use Rattle.acpins_survey_output.proofs.Separating.{some_links}
use Rattle.acpins_survey_reasons.proofs.Separating.{all_put, one_more_behind, others}
use Rattle.acpins_survey_output.proofs.links.put_found.Goals as goal

abbrev text_of : Link → List ℕ
text_of l = link_text (link_view l)

pub loop-link-preserved : goal.loop-link-preserved
loop-link-preserved c =
    one_more_behind (codes ", ") text_of (others c.args.links.now) c.loop-link.link-index c.link-item.result c.link-item.result c.put_link.new.text c.loop-link.text _ _
    c.loop-link-test.true c.link-item.is c.loop-link.invariant c.put-in-loop-link.ensures c.put_link-in-loop-link.ensures

pub returns-after-loop-link : goal.returns-after-loop-link
returns-after-loop-link c =
    let links = c.args.links.now in
    let first = c.first-item.result in
    rw (some_links links c.in-len1-up.len_at_least)
    (next_said c.args.text.now (codes " -> ") (separated (codes ", ") text_of links) _ _ c.put.ensures
    (all_put (codes ", ") text_of links first c.loop-link.link-index _ _ c.loop-link.text c.in-len1-up.len_at_least c.first-item.is c.loop-link-test.false
    c.put_link.ensures c.loop-link.invariant))
