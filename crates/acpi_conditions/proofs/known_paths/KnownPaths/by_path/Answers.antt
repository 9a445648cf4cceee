use Rattle.std.proofs.Common.{map, subst}
use Rattle.acpi_conditions.specs.ByPath.{AreByPath, lent_pair}
use Rattle.acpi_conditions.specs.KnownLists.{KnownLists}
use Rattle.acpi_conditions.specs.declared.entry.Entry.{Entry as EntryForm}
use Rattle.acpi_conditions.proofs.ByPath.{sorted_pairs}
use Rattle.acpi_conditions.proofs.known_paths.KnownPaths.by_path.Goals as goal

pub returns : goal.returns
returns c =
    subst (λ (k : KnownLists). AreByPath (map (λ (e : EntryForm). e.path) k.entries) (map lent_pair c.sort.new.self.items)) c.self.view_is
    (sorted_pairs c.self.inside.slots c.self.inside.entries.items c.in_ok-order.order.items c.sort.new.self.items c.self.invariant.certain.numbered c.self.invariant.sights
    c.in_ok-order.ensures c.in_ok-sort.ensures.permutation c.in_ok-sort.ensures.sorted)
