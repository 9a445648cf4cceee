use Rattle.std.proofs.Common.{◌∙◌, sym, ap, Some}
use Rattle.std.specs.Option.{option_map}
use Rattle.acpi_ranges.proofs.lookup.find_part.Goals as goal

pub returns-clause-found : goal.returns-clause-found
returns-clause-found c t =
    let h = c.levels.invariant t in
    ap (option_map Some) (sym (h.0 ∙ c.in_default.ensures.found h.1.0 h.1.1))
