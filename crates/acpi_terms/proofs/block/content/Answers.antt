-- What a wrong body leaves open is named here: its refusal then names it, and needs no second search.
use Rattle.std.proofs.Common.{rules}
use Rattle.acpi_terms.specs.steps.Reading.{block_content}
use Rattle.acpi_terms.proofs.block.content.Goals as goal

pub returns : goal.returns
unfolding block_content
returns c = search rules
