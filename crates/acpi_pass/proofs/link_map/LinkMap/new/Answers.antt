use Rattle.std.proofs.Common.{ap, ◌∙◌}
use Rattle.acpi_pass.proofs.Unions.{seen_at, seen-empty}
use Rattle.acpi_pass.proofs.link_map.LinkMap.new.Goals as goal

pub returns : goal.returns
returns c = ap (seen_at (λ a. a.value.items)) c.new.ensures ∙ seen-empty (λ a. a.value.items)
