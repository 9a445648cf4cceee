-- The place of the reason for which something is lost lies in what is lost, or at its end.
use Rattle.std.specs.Prelude.{◌≤◌, ℕ, List, length}
use Rattle.acpi_outline.specs.declared.fault.LostFault.{LostFault}
use Rattle.acpi_outline.specs.Nodes.{FieldNodes, no_more_fields, fields_lost, field_node}
use Rattle.acpi_outline.specs.Nodes.{NodeTree, holds, holds_fields, package_lost, data_lost, name_lost, NodeTrees, no_more, lost, node}
use Rattle.acpi_outline.specs.Rules.{Rules}
use Rattle.acpi_outline.specs.Outline.{IsOutline}
use Rattle.acpi_outline.specs.Tiling.{first_place}

-- from one place to another
abbrev pub LiesIn : ℕ → ℕ → LostFault → Type 0
LiesIn from to why = (from ≤ why.place) × (why.place ≤ to)

-- in a field list up to its end
abbrev pub FieldReasonsLie : ℕ → FieldNodes → Type 0
FieldReasonsLie end no_more_fields = Unit {0}
FieldReasonsLie end (fields_lost place why) = LiesIn place end why
FieldReasonsLie end (field_node place offset e es) = FieldReasonsLie end es

abbrev mutual
  -- in a node from its place to its end
  pub ReasonLies : ℕ → ℕ → NodeTree → Type 0
  ReasonLies place end (holds f ns) = ReasonsLie end ns
  ReasonLies place end (holds_fields f es) = FieldReasonsLie end es
  ReasonLies place end (package_lost form why) = LiesIn place end why
  ReasonLies place end (data_lost form why) = LiesIn place end why
  ReasonLies place end (name_lost n form why) = LiesIn place end why
  ReasonLies place end _ = Unit {0}

  -- in a list up to its end
  pub ReasonsLie : ℕ → NodeTrees → Type 0
  ReasonsLie end no_more = Unit {0}
  ReasonsLie end (lost place why) = LiesIn place end why
  ReasonsLie end (node place n ns) =
      ReasonLies place (first_place end ns) n × ReasonsLie end ns

-- The reasons of an outline lie in what they are the reasons of.
abbrev pub ReasonsLieInTheirRanges : {S : Type 0} → Rules S → Type 0
ReasonsLieInTheirRanges {S} r = (known : S) (depth : ℕ) (code : List ℕ) (ns : NodeTrees)
    → IsOutline r known depth ns code → ReasonsLie (length code) ns
