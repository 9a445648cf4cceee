-- By what control can leave statements (ACPI 6.5, 19.6).
use Rattle.std.specs.Prelude.{Bool, true, false, ◌&&◌, ◌||◌, Option, Some, None}
use Rattle.acpi_tree.specs.declared.op.Op.{Op}
use Rattle.acpi_tree.specs.declared.op.Op.TheVariants as op
use Rattle.acpi_tree.specs.Terms.{TermTree, TermTrees, ElseTree, apply, if_do, while_do, no_terms, more, no_else, else_do}
use Rattle.acpi_uses.specs.declared.exits.Exits.{Exits}
use Rattle.acpi_uses.specs.Truth.{truth_of}

abbrev pub at_end : Exits
at_end = record { end = true; by_return = false; by_break = false; by_continue = false }

-- Fatal is like Return
abbrev pub op_exits : Op → Exits
op_exits op.Return = record at_end { end = false; by_return = true }
op_exits op.Fatal = record at_end { end = false; by_return = true }
op_exits op.Break = record at_end { end = false; by_break = true }
op_exits op.Continue = record at_end { end = false; by_continue = true }
op_exits _ = at_end

-- of two lists, one of which is run
abbrev pub either : Exits → Exits → Exits
either a b = record {
  end = a.end || b.end;
  by_return = a.by_return || b.by_return;
  by_break = a.by_break || b.by_break;
  by_continue = a.by_continue || b.by_continue;
}

-- of two lists, the second of which is run behind the end of the first
abbrev pub in_turn : Exits → Exits → Exits
in_turn a b = record {
  end = a.end && b.end;
  by_return = a.by_return || (a.end && b.by_return);
  by_break = a.by_break || (a.end && b.by_break);
  by_continue = a.by_continue || (a.end && b.by_continue);
}

-- of an If: one list is run where the predicate is true, the other where it is false
abbrev pub if_exits : Option Bool → Exits → Exits → Exits
if_exits None a b = either a b
if_exits (Some true) a b = a
if_exits (Some false) a b = b

-- of a While: Break and Continue of the list inside stay inside; where the predicate is a constant other than 0 it ends by
-- Break alone
abbrev pub while_exits : Option Bool → Exits → Exits
while_exits None inside = record at_end { by_return = inside.by_return }
while_exits (Some true) inside = record at_end { end = inside.by_break; by_return = inside.by_return }
while_exits (Some false) inside = at_end

abbrev mutual
  pub exits_in : TermTree → Exits
  exits_in (apply op vs) = op_exits op
  exits_in (if_do predicate ts e) = if_exits (truth_of predicate) (exits_of ts) (exits_of_else e)
  exits_in (while_do predicate ts) = while_exits (truth_of predicate) (exits_of ts)
  exits_in _ = at_end

  pub exits_of_else : ElseTree → Exits
  exits_of_else no_else = at_end
  exits_of_else (else_do ts) = exits_of ts

  pub exits_of : TermTrees → Exits
  exits_of no_terms = at_end
  exits_of (more t ts) = in_turn (exits_in t) (exits_of ts)
