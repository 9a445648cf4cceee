use Rattle.std.proofs.Common.{◌≡◌, ◌∙◌, ℕ, List, [], ap, unwrap_or}
use Rattle.acpi_name.specs.Names.{NameParts}
use Rattle.acpi_conditions.proofs.Basics.{if_ok_map}
use Rattle.acpi_ranges.specs.Index.{unknowns_in}
use Rattle.acpi_ranges.specs.Places.{last_at}
use Rattle.acpi_ranges.specs.steps.Indexes.{index_unknowns, names_or_none}
use Rattle.acpi_ranges.proofs.Indexing.{last_unknown}
use Rattle.acpi_ranges.proofs.index.index_of.Goals as goal

pub returns-clause-unknown : goal.returns-clause-unknown
returns-clause-unknown c =
    if_ok_map c.new.result _ (λ x. (place : ℕ) → index_unknowns x place ≡ unknowns_in c.args.survey.now.reading place)
    (λ x e place. ap names_or_none (e place) ∙ last_unknown c.unknown.result.now place
    ∙ ap (λ (us : List (ℕ × List NameParts)). unwrap_or (last_at us place) []) c.unknown.ensures) c.new.ensures.unknown
