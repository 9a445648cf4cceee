use Rattle.std.proofs.Common.{◌≡◌, ◌∷◌, drop, length, map, take}
use Rattle.std.specs.Vec.Iter.{into_iter_items}
use Rattle.acpi_declare.specs.Namespace.{namespace_of}
use Rattle.acpi_declare.specs.Notes.{notes_of}
use Rattle.acpi_rewrite.specs.Rewriting.{AreTablesOfBytes}
use Rattle.acpi_rewrite.specs.steps.Recoding.{IsRewrittenTo}
use Rattle.acpi_rewrite.proofs.rewriting.rewrite_tables.Given as goal

-- the notes of the tables to come are left; the tables so far are rewritten, and they are bytes, the old and the new ones
abbrev pub invariant-loop-noted : goal.invariant-loop-noted
invariant-loop-noted g l = record {
  left : into_iter_items l.noted-iterator ≡ drop (length l.rewritten.items) (into_iter_items l.initial.noted-iterator);
  so_far : IsRewrittenTo l.depth (l.dsdt ∷ l.ssdts) (map notes_of (into_iter_items l.initial.noted-iterator)) (namespace_of (g.S.Space.contents l.objects))
      (length l.rewritten.items) (map (λ b. b.items) l.rewritten.items);
  old : AreTablesOfBytes (take (length l.rewritten.items) (l.dsdt ∷ l.ssdts));
  new : AreTablesOfBytes (map (λ b. b.items) l.rewritten.items);
}
