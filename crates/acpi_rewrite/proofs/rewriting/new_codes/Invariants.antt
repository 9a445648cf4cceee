use Rattle.std.proofs.Common.{take}
use Rattle.std.specs.FinMap.{get}
use Rattle.std.specs.List.{AllZip}
use Rattle.acpi_declare.specs.Namespace.{namespace_of}
use Rattle.acpi_declare.specs.Notes.{method_of}
use Rattle.acpi_order.specs.Bodies.{with_counts}
use Rattle.acpi_rewrite.specs.Rewriting.{IsNewCode}
use Rattle.acpi_rewrite.proofs.rewriting.new_codes.Given as goal

abbrev pub invariant-loop-method : goal.invariant-loop-method
invariant-loop-method g l =
    AllZip (λ m code. IsNewCode l.depth (namespace_of (g.S.Space.contents l.objects)) (with_counts (get l.notes.counts) (method_of m)) code) (take l.method-index l.method-items) l.codes.items
