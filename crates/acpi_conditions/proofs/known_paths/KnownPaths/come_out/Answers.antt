use Rattle.std.proofs.Common.{Bool, false, refl, sym, ap, ◌∙◌}
use Rattle.acpi_conditions.specs.KnownLists.{KnownLists, lists_behind}
use Rattle.acpi_conditions.proofs.KeptLists.{lists_are, oldest_facts}
use Rattle.acpi_conditions.proofs.known_paths.KnownPaths.come_out.Goals as goal

pub returns : goal.returns
returns c =
    lists_are c.self.inside (record c.self.inside { slots = c.take_back.new.slots; facts = c.take_back.new.facts; hidden = c.truncate.new.self; in_loop = c.args.mark.in_loop }) c.self.inside.entries.items _ _ c.args.mark.in_loop
    refl (oldest_facts c.self.inside.slots c.take_back.new.slots c.self.inside.facts.items c.take_back.new.facts.items c.args.mark.certain c.take_back.ensures.paths c.take_back.ensures.facts) c.truncate.ensures.items refl
    ∙ ap (λ (k : KnownLists). lists_behind c.args.mark false k) c.self.view_is
    ∙ ap (λ (b : Bool). lists_behind c.args.mark b c.args.self.now) (sym c.if-keeps.false)
