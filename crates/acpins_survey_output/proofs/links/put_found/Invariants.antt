use Rattle.std.proofs.Common.{◌≡◌, ◌++◌, take, codes}
use Rattle.std.specs.List.{flat_map}
use Rattle.acpi_entries.specs.ConditionViews.{link_view}
use Rattle.acpins_survey_output.specs.Links.{link_text}
use Rattle.acpins_survey_output.proofs.links.put_found.Given as goal

abbrev pub invariant-loop-link : goal.invariant-loop-link
invariant-loop-link l = l.text ≡ l.initial.text ++ flat_map (λ y. codes ", " ++ link_text (link_view y)) (take l.link-index l.rest)
