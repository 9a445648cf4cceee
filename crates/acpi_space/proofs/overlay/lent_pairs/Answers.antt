use Rattle.std.proofs.Common.{map, ap, sym, ◌∙◌}
use Rattle.acpi_space.proofs.Laid.{entries-unlent}
use Rattle.acpi_space.proofs.overlay.lent_pairs.Goals as goal

pub returns-in-None : goal.returns-in-None
returns-in-None g c = ap (map (λ p. (p.0, p.1.now))) c.new.ensures.items ∙ sym (entries-unlent g.S.Space.contents c.args.space c.in-None.is)
