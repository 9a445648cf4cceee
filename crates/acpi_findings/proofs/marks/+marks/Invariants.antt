use Rattle.std.proofs.Common.{◌≡◌, ◌++◌, drop}
use Rattle.acpi_tree.specs.Terms.{terms_of}
use Rattle.acpi_tree.specs.TermView.{terms_tree, operands_view}
use Rattle.acpi_findings.specs.Marks.{behind_all, marks_in_all}
use Rattle.acpi_findings.specs.steps.MarkViews.{mark_views}
use Rattle.acpi_findings.proofs.marks.+marks.Given as goal

-- the marks so far and those of what is left; and what is behind all of it
abbrev pub invariant-put_of_terms-each : goal.invariant-put_of_terms-each
invariant-put_of_terms-each l =
    (mark_views l.found.items ++ marks_in_all l.end (terms_tree (drop l.term-index l.terms)) l.rest
    ≡ mark_views l.initial.found.items ++ marks_in_all l.end (terms_tree l.terms) l.bytes)
    × (behind_all (terms_tree (drop l.term-index l.terms)) l.rest ≡ behind_all (terms_tree l.terms) l.bytes)

abbrev pub invariant-put_of_operands-each : goal.invariant-put_of_operands-each
invariant-put_of_operands-each l =
    (mark_views l.found.items ++ marks_in_all l.end (terms_of (operands_view (drop l.operand-index l.operands))) l.rest
    ≡ mark_views l.initial.found.items ++ marks_in_all l.end (terms_of (operands_view l.operands)) l.bytes)
    × (behind_all (terms_of (operands_view (drop l.operand-index l.operands))) l.rest ≡ behind_all (terms_of (operands_view l.operands)) l.bytes)
