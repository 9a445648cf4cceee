-- Problems as the code keeps them.
use Rattle.acpi_conditions.specs.EntryForms.{why_of}
use Rattle.acpi_findings.specs.Problems.{ReasonParts, unread, cut, trailing, unreadable, refused, ProblemParts}
use Rattle.acpi_findings.specs.declared.problems.Problem.{Problem}
use Rattle.acpi_findings.specs.declared.problems.ProblemReason.{ProblemReason}
use Rattle.acpi_findings.specs.declared.problems.ProblemReason.TheVariants.{Unread, Cut, Trailing, Lost, Refused}

abbrev pub reason_view : ProblemReason → ReasonParts
reason_view (Unread why) = unread why
reason_view Cut = cut
reason_view Trailing = trailing
reason_view (Lost why) = unreadable why
reason_view (Refused why) = refused (why_of why)

abbrev pub problem_view : Problem → ProblemParts
problem_view p =
    record {
      site = p.site;
      reason = reason_view p.reason;
      name = p.name;
      lost = p.lost;
      scope = p.scope;
    }
