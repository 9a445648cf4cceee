use Rattle.std.proofs.Common.{Option, drop, map}
use Rattle.acpi_declare.specs.Namespace.{namespace_of}
use Rattle.acpi_declare.specs.Notes.{notes_of}
use Rattle.acpi_values.specs.declared.fault.BodyFault.{BodyFault}
use Rattle.acpi_machine.specs.Explaining.{IsReasonAt}
use Rattle.acpi_order.specs.steps.Noted.{all_noted}
use Rattle.acpi_machine.proofs.reasons.reason_at.Given as goal

-- what is told by the tables that are left, all of them tell
abbrev pub invariant-loop-table : goal.invariant-loop-table
invariant-loop-table g l =
    (w : Option BodyFault)
    → IsReasonAt l.depth (namespace_of (g.S.Space.contents l.objects)) (all_noted (map notes_of (drop l.table-index l.notes))) l.path w
    → IsReasonAt l.depth (namespace_of (g.S.Space.contents l.objects)) (all_noted (map notes_of l.notes)) l.path w
