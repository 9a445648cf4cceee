-- How the reading of nodes depends on what was read before: a state, which is what is known so far.
use Rattle.std.specs.Prelude.{ℕ, Bool, true, false, List, Option, Some, None}
use Rattle.acpi_name.specs.Names.{NameParts}
use Rattle.acpi_tree.specs.Tree.{FieldTree}
use Rattle.acpi_values.specs.Grammars.{Grammar}
use Rattle.acpi_outline.specs.declared.form.PackedForm.{PackedForm}
use Rattle.acpi_outline.specs.Nodes.{PlainTree, FixedTree, method, units, FieldNodes, no_more_fields, fields_lost, field_node}
use Rattle.acpi_outline.specs.Nodes.{NodeTree, plain, holds, holds_fields, closed, package_lost, data_lost, name_lost, NodeTrees, no_more, lost, node}

-- What a state says, and how it goes on: how many values follow a name, if that is sure; whether one may go into a
-- package with these fixed arguments. Then the state behind a plain node, behind a Name whose data is lost, behind a
-- package whose fixed arguments are lost, by its form, or a statement whose data is (None), inside a package, behind
-- what stands in one, at the front of a field list, behind an element of it, and behind a package that is not gone
-- into. A number is the place of the node.
pub record Rules (S : Type 0) : Type 0 where
  pub args : S → NameParts → Option ℕ
  pub opens : S → FixedTree → Bool
  pub after_plain : S → ℕ → PlainTree → S
  pub after_name : S → ℕ → NameParts → S
  pub after_lost : S → ℕ → Option PackedForm → S
  pub enter : S → ℕ → FixedTree → S
  pub leave : S → S
  pub begin_fields : S → ℕ → FixedTree → S
  pub after_field : S → ℕ → FixedTree → FieldTree → S
  pub after_closed : S → ℕ → FixedTree → List ℕ → S

-- values and statements at module level may be loads
abbrev pub grammar_at : {S : Type 0} → Rules S → S → Grammar
grammar_at r known = record { args = r.args known; loads = true }

-- the code of a method and a field list are never gone into
abbrev pub goes_into : {S : Type 0} → Rules S → S → FixedTree → Bool
goes_into r known (method n flags) = false
goes_into r known (units form ns vs) = false
goes_into r known f = r.opens known f

-- ---- the state behind nodes: why one is lost plays no part, and the rest of a list that is lost leaves it as it is

abbrev pub after_fields : {S : Type 0} → Rules S → S → FixedTree → FieldNodes → S
after_fields r known f no_more_fields = known
after_fields r known f (fields_lost place why) = known
after_fields r known f (field_node place offset e es) =
    after_fields r (r.after_field known place f e) f es

abbrev mutual
  pub after : {S : Type 0} → Rules S → ℕ → S → NodeTree → S
  after r place known (plain p) = r.after_plain known place p
  after r place known (holds f ns) = r.leave (after_all r (r.enter known place f) ns)
  after r place known (holds_fields f es) = after_fields r (r.begin_fields known place f) f es
  after r place known (closed f content) = r.after_closed known place f content
  after r place known (package_lost form why) = r.after_lost known place (Some form)
  after r place known (data_lost form why) = r.after_lost known place None
  after r place known (name_lost n form why) = r.after_name known place n

  pub after_all : {S : Type 0} → Rules S → S → NodeTrees → S
  after_all r known no_more = known
  after_all r known (lost place why) = known
  after_all r known (node place n ns) = after_all r (after r place known n) ns
